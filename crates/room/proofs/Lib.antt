pub mod Placing
pub mod Unique
