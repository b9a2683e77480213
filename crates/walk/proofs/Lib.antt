pub mod Sums
pub mod PartLaws
pub mod StepsLaws
pub mod FaultLaws
pub mod HoldLaws
