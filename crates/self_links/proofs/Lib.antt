pub mod CutLaws
pub mod CuttingLaws
