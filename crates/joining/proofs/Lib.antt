pub mod RuleLaws
pub mod StandLaws
pub mod BehindLaws
pub mod TurnLaws
pub mod EmitLaws
