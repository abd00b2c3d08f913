pub mod Lists
pub mod Tables
pub mod Links
mod LeastSeen
