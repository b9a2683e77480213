pub mod FilesLaws
pub mod BlockLaws
pub mod EntryLaws
