pub mod Chains
pub mod Fill
