pub mod LastLaws
pub mod EmittingLaws
pub mod WholeLaws
