pub mod Bytes
pub mod Pattern
pub mod Space
pub mod First
pub mod Split
pub mod Lines
pub mod Ascii
