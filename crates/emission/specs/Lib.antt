pub mod Emission
