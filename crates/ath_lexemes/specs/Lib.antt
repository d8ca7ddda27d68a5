pub mod Level
pub mod Lexemes
pub mod Numbered
pub mod Reserved
