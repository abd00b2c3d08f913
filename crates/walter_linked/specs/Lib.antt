pub mod Catalogs
pub mod Marks
pub mod Senders
