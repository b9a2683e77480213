pub mod FillExamples
pub mod AssembleExamples
pub mod BookExamples
