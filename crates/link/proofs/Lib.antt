pub mod LinkLaws
pub mod TargetLaws
pub mod Checks
