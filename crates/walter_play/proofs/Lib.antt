pub mod Arming
pub mod Steps
mod Unread
