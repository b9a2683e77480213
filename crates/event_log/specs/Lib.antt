pub mod Log
pub mod Sink
