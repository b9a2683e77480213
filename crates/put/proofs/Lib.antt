pub mod PutLaws
pub mod RunningLaws
pub mod NewTextLaws
