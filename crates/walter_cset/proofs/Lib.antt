pub mod Moving
pub mod Numbers
pub mod Sets
pub mod Steps
