pub mod Added
mod Classes
mod Clean
mod Completes
mod Joins
pub mod LevelLaws
mod ProperActions
pub mod ProperRead
mod ProperRuns
mod ProperTable
mod ProperTypes
pub mod Readings
mod Ready
mod Runs
mod Steps
mod Typed
pub mod TypedTable
