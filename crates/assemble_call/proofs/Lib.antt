pub mod AssembleCallLaws
