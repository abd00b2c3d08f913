pub mod WrittenTrails
pub mod CausalRun
pub mod DecisionRun
pub mod LockedRun
