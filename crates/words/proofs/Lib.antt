pub mod Unique
pub mod Walking
pub mod Spaces
pub mod Decimals
pub mod Signs
pub mod Pairs
pub mod Filling
