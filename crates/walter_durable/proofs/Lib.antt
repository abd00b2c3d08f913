pub mod Bits
pub mod Held
pub mod Heard
pub mod Kept
pub mod Seen
pub mod Bridge
