pub mod Records
pub mod Sofar
pub mod Turn
pub mod Unique
