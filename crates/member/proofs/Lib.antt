pub mod LinesLaws
pub mod PassedLaws
pub mod HeadingLaws
