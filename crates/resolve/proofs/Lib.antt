pub mod ResolveLaws
