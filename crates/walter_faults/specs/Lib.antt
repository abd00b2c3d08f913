pub mod Schedules
