pub mod Codes
pub mod Contents
pub mod ImageLaws
pub mod MemoryDisks
pub mod MemoryRacks
pub mod Pasts
pub mod Rooms
pub mod Stops
