pub mod Rows
pub mod scaffold
