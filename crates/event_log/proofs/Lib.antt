pub mod LogLaws
pub mod SinkLaws
