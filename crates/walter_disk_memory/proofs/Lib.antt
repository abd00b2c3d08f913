pub mod Reaches
pub mod Moments
pub mod Tails
