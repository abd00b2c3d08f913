pub mod Codes
pub mod FileDisks
pub mod HandedDisks
pub mod HostDisks
pub mod HostRacks
