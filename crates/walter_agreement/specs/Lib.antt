pub mod Locking
pub mod Marks
