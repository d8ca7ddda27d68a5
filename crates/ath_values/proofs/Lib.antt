pub mod Growth
pub mod Made
pub mod One
mod Examples
