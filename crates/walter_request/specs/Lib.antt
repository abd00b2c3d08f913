pub mod Requests
pub mod Stops
