pub mod Committed
pub mod HeldRows
pub mod ReadRows
