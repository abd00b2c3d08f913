pub mod Propagation
pub mod Kept
