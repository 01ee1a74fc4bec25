pub mod Pieces
pub mod Records
pub mod Reports
pub mod Sofar
pub mod Unique
