pub mod Advance
pub mod Carried
mod Growth
mod KnownTokens
pub mod Machines
pub mod NextAnswers
mod Numbered
pub mod OneNext
mod ProperRead
mod Seen
pub mod SomeNext
pub mod Steps
mod Turned
mod Viewed
