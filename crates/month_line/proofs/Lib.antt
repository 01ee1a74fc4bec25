pub mod Uncut
pub mod Unique
