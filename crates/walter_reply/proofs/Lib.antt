pub mod Sets
pub mod SetStops
pub mod Lengths
pub mod Prefixes
pub mod Fronts
pub mod Places
