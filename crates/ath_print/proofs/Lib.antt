mod LineLaws
mod PieceLaws
pub mod PrefixLaws
mod Rows
mod Searches
pub mod StandLaws
