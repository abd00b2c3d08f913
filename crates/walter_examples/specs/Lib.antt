pub mod Entries
pub mod CausalOrder
pub mod DecisionInFlight
pub mod LockedByACause
