pub mod Promises
pub mod Summary
