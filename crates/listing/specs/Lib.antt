pub mod Listing
pub mod ScanCall
