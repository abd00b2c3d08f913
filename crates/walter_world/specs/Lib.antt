pub mod Events
pub mod Comings
pub mod Records
pub mod Seats
pub mod Happenings
pub mod Worlds
