pub mod TitleLaws
pub mod EndLaws
pub mod OutlineLaws
pub mod BelowLaws
