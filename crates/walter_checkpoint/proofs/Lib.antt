pub mod Contents
pub mod Adding
mod Booking
pub mod Entries
mod Renewing
pub mod Packs
mod Openings
mod Parts
mod Spelled
pub mod Switching
mod Rooms
pub mod Damages
