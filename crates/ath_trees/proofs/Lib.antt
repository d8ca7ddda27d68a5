pub mod SameLaws
pub mod ValidSorts
pub mod Growth
pub mod UnderLaws
pub mod Occurring
pub mod GroupLaws
pub mod Renaming
pub mod SubstLaws
pub mod SubstForms
pub mod SortUnderLaws
pub mod SortUnderForms
pub mod BinderLaws
pub mod ClosingLaws
pub mod Forms
pub mod InstanceLaws
pub mod BindingLaws
pub mod Sorting
mod Rows
