pub mod LinkedLaws
