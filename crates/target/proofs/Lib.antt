pub mod TitleLaws
