pub mod UnmarkedLaws
pub mod DropLaws
