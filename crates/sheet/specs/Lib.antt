pub mod Promises
pub mod Sheet
