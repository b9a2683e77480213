pub mod Insertion
pub mod Plans
