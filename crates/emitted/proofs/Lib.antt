pub mod EmittedLaws
