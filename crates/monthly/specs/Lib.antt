pub mod Monthly
pub mod Promises
