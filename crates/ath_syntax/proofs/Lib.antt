pub mod Exists
pub mod Growth
pub mod Kept
pub mod NodeLaws
pub mod One
pub mod Fitting
