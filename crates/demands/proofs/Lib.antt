pub mod NumbersLaws
pub mod Demand3
pub mod Demand1
