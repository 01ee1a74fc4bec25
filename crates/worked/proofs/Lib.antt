pub mod Holds
pub mod Unique
