pub mod Entries
pub mod Nodes
pub mod Lines
pub mod Written
pub mod Cells
pub mod Turns
pub mod Builds
pub mod Pumps
