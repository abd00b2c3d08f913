pub mod Own
pub mod Places
pub mod Logged
pub mod Kept
