pub mod Texts
pub mod Declarations
pub mod Outcomes
pub mod Steps
pub mod Laws
