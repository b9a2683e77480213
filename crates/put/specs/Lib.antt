pub mod Put
pub mod NewText
pub mod Running
