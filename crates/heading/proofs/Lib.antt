pub mod WalkLaws
pub mod ContentsLaws
pub mod LevelLaws
pub mod StillLaws
pub mod PastLaws
pub mod Checks
