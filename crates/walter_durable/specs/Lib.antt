pub mod Marks
pub mod Bits
pub mod Codes
pub mod Listings
pub mod Counted
