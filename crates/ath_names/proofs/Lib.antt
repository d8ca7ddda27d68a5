pub mod NamesLaws
mod Positions
mod Inserts
