pub mod JudgeLaws
pub mod MakingLaws
pub mod MemberLaws
pub mod BookLaws
pub mod ReadyLaws
