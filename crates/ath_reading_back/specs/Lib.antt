pub mod Shapes
pub mod Pieces
pub mod TextTree
pub mod Premises
pub mod Laws
