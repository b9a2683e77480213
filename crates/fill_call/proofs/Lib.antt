pub mod FillCallLaws
