pub mod Counted
pub mod Kept
pub mod Laws
pub mod Rising
pub mod Unique
