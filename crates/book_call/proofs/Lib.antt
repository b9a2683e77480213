pub mod BookCallLaws
