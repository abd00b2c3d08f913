pub mod Appending
mod Beginning
pub mod Gates
pub mod Layouts
mod Reading
pub mod Told
pub mod Zeros
