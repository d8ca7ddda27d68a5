pub mod Binders
pub mod Seen
pub mod Answer
pub mod Keys
