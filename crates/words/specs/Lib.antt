pub mod Hex
pub mod Numbers
pub mod Words
