pub mod NoneCut
pub mod Unique
