pub mod Resolve
pub mod Joined
