pub mod Pieces
pub mod Within
pub mod Unique
