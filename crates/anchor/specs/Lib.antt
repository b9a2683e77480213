pub mod Anchor
pub mod Runs
