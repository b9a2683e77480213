pub mod LeftLaws
pub mod BlockLaws
pub mod PuttingLaws
pub mod EmitLaws
