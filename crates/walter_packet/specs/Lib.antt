pub mod Spelling
pub mod Fields
pub mod Framed
