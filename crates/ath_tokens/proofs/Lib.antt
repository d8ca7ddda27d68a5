pub mod Longest
mod Scans
mod FirstBytes
mod Strings
mod StringText
mod HexLaws
mod LexesLaws
mod TellsLaws
pub mod CutLaws
pub mod SpelledNames
mod Rows
