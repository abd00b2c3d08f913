pub mod Fields
pub mod Carried
pub mod Putting
pub mod Grown
pub mod Linked
