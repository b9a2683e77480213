pub mod MarkerLaws
pub mod ProblemLaws
pub mod Within
