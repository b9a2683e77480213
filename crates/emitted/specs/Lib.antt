pub mod Line
pub mod Emitted
pub mod Emit
