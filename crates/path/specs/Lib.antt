pub mod Path
pub mod Backward
