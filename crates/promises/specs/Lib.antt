pub mod Calls
pub mod Numbers
pub mod Outcomes
pub mod Product
pub mod Program
