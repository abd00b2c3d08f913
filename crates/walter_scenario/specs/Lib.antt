pub mod Parts
pub mod Scenarios
pub mod Members
pub mod Fronts
pub mod Faults
