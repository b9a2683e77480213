pub mod AssembleLaws
pub mod Checks
pub mod FaultLaws
pub mod EmitLaws
pub mod PlaceLaws
