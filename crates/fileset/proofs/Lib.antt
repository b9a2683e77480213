pub mod MemberLaws
pub mod CheckLaws
pub mod PassedLaws
pub mod PlaceLaws
