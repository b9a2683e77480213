pub mod Shift
pub mod Ends
pub mod Levels
