pub mod AdvanceLaws
pub mod DeskLaws
pub mod Existence
pub mod LimitLaws
pub mod MoveLaws
pub mod PlainLines
pub mod PlainNames
pub mod ReadLaws
pub mod ReplyLaws
pub mod RunLaws
pub mod SessionLaws
pub mod Sound
pub mod SoundLaws
pub mod StatementLaws
pub mod TellingLaws
pub mod TopLaws
pub mod UnbuiltLaws
pub mod WeightLaws
pub mod WholeLines
mod DeclareLaws
mod Differ
mod NewLaws
mod FuelLaws
mod BelievedLaws
