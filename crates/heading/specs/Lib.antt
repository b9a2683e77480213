pub mod Walk
pub mod Level
pub mod Contents
