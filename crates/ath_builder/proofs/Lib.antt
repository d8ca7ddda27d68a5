pub mod Held
pub mod NameLaws
