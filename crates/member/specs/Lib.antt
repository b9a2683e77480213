pub mod Member
pub mod Lines
pub mod Passed
