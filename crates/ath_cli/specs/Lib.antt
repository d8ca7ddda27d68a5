pub mod Exit
pub mod Messages
