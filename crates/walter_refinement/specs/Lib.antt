pub mod Spelled
pub mod Named
pub mod Once
pub mod Answered
