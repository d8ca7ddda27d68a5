pub mod AlphaSorted
pub mod Grown
