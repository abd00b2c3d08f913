pub mod Placed
pub mod Filters
