pub mod IndexLaws
pub mod RowsLaws
pub mod ReadLaws
pub mod RecordLaws
pub mod NameLaws
