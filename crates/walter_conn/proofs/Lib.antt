pub mod InputLemmas
pub mod Readings
pub mod Orders
pub mod Standings
