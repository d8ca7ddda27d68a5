pub mod Depths
pub mod FitLaws
pub mod FormLaws
pub mod Listings
pub mod PatternLaws
pub mod PhraseLists
pub mod StatementLaws
