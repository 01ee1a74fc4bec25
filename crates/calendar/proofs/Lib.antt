pub mod Months
pub mod Throughout
pub mod Unique
