pub mod Onto
pub mod Preferred
