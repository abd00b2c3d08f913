pub mod Votes
pub mod Packets
pub mod NoFields
