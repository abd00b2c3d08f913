pub mod Folded
pub mod Kept
pub mod Lines
pub mod Reaches
pub mod Rows
pub mod Steps
pub mod Versions
