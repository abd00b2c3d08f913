pub mod Choices
pub mod Pumps
