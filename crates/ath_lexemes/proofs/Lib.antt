pub mod LevelLaws
pub mod LexemeLaws
pub mod Rows
