pub mod Numbers
pub mod Readings
pub mod Exits
pub mod Longest
