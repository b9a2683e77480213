pub mod LoopLaws
pub mod EmbedLaws
