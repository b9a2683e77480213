pub mod LineLaws
pub mod TellsLaws
pub mod CompareLaws
pub mod SharedLaws
