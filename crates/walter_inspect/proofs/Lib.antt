pub mod Loaded
pub mod Growing
