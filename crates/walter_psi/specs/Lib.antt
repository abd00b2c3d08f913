pub mod Histories
pub mod Legal
pub mod Checking
pub mod Properties
