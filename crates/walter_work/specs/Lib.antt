pub mod Worked
pub mod Working
pub mod Driven
