pub mod Decimals
pub mod Putting
pub mod ReadsBack
pub mod Unique
