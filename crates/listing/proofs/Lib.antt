pub mod CallLaws
pub mod ListingLaws
pub mod Checks
