pub mod Journaled
pub mod Promises
pub mod Owing
