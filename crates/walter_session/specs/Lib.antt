pub mod Sessions
pub mod Floors
