pub mod Laying
pub mod Overlays
