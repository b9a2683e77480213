pub mod LineLaws
pub mod EarlierLaws
