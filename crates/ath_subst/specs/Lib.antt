pub mod Under
pub mod Binders
pub mod Captures
pub mod Limited
pub mod Given
pub mod Meeting
pub mod Same
