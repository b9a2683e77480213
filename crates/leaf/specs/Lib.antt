pub mod Leaf
pub mod Link
pub mod Region
