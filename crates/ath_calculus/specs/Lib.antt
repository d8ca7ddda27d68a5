pub mod Derives
pub mod Laws
pub mod Theory
