pub mod Promises
pub mod Record
pub mod Rules
