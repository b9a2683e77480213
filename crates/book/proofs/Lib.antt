pub mod BookLaws
pub mod DemandLaws
pub mod Demand
pub mod Checks
pub mod ListLaws
pub mod PlaceLaws
