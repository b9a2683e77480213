pub mod Index
pub mod Records
pub mod Rows
pub mod FileSets
