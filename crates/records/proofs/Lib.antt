pub mod Reading
pub mod RoundTrip
pub mod Unique
pub mod Writing
