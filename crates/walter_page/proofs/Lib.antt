pub mod Digits
pub mod Going
pub mod Joined
pub mod Parted
