pub mod LeafLaws
