pub mod Scan
pub mod Regions
pub mod Skip
