pub mod Props
pub mod States
pub mod Debts
pub mod Comings
pub mod Steps
pub mod Readiness
pub mod Machines
pub mod Posts
