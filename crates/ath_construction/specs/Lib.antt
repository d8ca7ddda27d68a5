pub mod Construction
pub mod Listing
pub mod Answers
pub mod Steps
pub mod Closure
