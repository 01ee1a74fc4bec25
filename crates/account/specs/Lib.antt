pub mod Adding
pub mod Closing
pub mod Kept
pub mod Opening
pub mod Promises
pub mod scaffold
