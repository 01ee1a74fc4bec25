pub mod Calls
pub mod Holds
pub mod Months
pub mod Opening
pub mod Places
pub mod Promises
pub mod Year
