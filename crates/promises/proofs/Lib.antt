pub mod Calls
pub mod Product
pub mod Program
