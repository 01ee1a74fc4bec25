pub mod Places
pub mod Promises
pub mod Text
pub mod scaffold
