pub mod Book
pub mod BookWalk
pub mod Calls
pub mod Promises
pub mod Demand
