pub mod Tonnes
