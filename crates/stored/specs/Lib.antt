pub mod Header
pub mod Row
pub mod Case
