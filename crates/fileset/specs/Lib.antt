pub mod Members
pub mod Check
