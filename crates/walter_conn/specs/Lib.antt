pub mod Frames
pub mod Inputs
pub mod Calls
pub mod Connections
pub mod Outputs
pub mod Sequences
