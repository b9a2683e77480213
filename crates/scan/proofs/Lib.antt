pub mod SkipLaws
pub mod ScanLaws
pub mod RegionLaws
