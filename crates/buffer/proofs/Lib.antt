pub mod BufferLaws
pub mod DecimalLaws
