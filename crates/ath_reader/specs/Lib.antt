pub mod Ahead
pub mod Answering
pub mod Laws
pub mod Next
pub mod Operators
pub mod Reading
pub mod Runs
pub mod Steps
