pub mod House
pub mod Ranges
pub mod RoundTrip
