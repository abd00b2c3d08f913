pub mod Longs
pub mod Turns
pub mod Levels
pub mod Loads
pub mod Drives
pub mod Audits
pub mod Asking
pub mod Entered
