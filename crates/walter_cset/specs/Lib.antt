pub mod Between
pub mod Tallies
pub mod Totals
