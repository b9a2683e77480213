pub mod PlaceLaws
pub mod ByteLaws
pub mod BlankLaws
pub mod OwnLaws
pub mod CursorLaws
pub mod HostLaws
