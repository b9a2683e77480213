pub mod BoolLaws
pub mod LineLaws
pub mod StripLaws
pub mod HeadingTheorem
pub mod FenceLaws
pub mod FenceTheorem
pub mod FlagTheorem
pub mod ExampleTheorem
