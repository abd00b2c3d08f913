pub mod Members
pub mod Plans
