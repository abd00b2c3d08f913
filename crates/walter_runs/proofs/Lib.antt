pub mod Merging
pub mod Running
pub mod Steps
