pub mod Sets
pub mod Replies
pub mod Stops
