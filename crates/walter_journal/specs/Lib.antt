pub mod Faults
pub mod Journals
pub mod Layout
pub mod Steps
pub mod Zeros
