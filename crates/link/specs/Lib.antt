pub mod Target
pub mod Links
