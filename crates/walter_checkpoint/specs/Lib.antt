pub mod Areas
pub mod Books
pub mod Faults
pub mod Loads
pub mod Packs
