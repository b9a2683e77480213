pub mod Shared
pub mod Tells
