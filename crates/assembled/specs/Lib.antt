pub mod Assemble
pub mod Assembled
