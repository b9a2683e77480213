pub mod Strip
pub mod Atx
pub mod Headings
pub mod Fenced
pub mod Fences
pub mod Examples
