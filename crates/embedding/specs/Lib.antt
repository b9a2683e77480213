pub mod Embed
pub mod Unmarked
