pub mod Regions
pub mod Hosts
pub mod Own
