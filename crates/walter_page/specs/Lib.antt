pub mod Words
pub mod Lists
pub mod Pages
pub mod Parts
pub mod Unwritten
