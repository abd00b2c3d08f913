pub mod Disks
pub mod Images
pub mod Racks
