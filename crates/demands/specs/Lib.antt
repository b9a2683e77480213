pub mod Numbers
pub mod Demand3
pub mod Demand1
