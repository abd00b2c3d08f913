pub mod Counts
pub mod Taking
pub mod Working
pub mod Driven
