pub mod AnchorLaws
pub mod Checks
pub mod RunTheorem
