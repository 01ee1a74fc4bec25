pub mod Calendar
pub mod Promises
