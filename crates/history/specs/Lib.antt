pub mod History
pub mod Months
pub mod Promises
pub mod Year
