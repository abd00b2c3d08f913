pub mod Lengths
pub mod Prefixes
pub mod Failures
pub mod Padded
pub mod Rising
pub mod Joined
pub mod ByKind
pub mod Formats
