pub mod Bounds
pub mod Sums
pub mod Within
pub mod scaffold
