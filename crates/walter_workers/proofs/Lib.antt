pub mod Rooms
pub mod Work
pub mod Turning
pub mod Pumping
pub mod Driving
pub mod Beginning
