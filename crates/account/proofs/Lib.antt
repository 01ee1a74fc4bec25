pub mod Accepted
pub mod Laws
pub mod Lossless
pub mod Opens
pub mod Unique
pub mod Within
