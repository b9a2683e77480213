pub mod PrepareLaws
pub mod WideLaws
