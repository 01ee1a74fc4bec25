pub mod Turn
pub mod scaffold
