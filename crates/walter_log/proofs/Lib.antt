pub mod Placed
pub mod Numbered
pub mod Rooms
pub mod Kept
