pub mod ListLaws
pub mod BinderLaws
pub mod FormLaws
pub mod WalkLaws
pub mod MatchLaws
pub mod KeyLaws
