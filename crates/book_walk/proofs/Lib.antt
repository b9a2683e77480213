pub mod BookWalkLaws
