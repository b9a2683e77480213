pub mod ShiftLaws
pub mod LevelsLaws
pub mod EndsLaws
pub mod Checks
