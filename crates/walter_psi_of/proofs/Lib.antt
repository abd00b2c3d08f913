pub mod Kept
pub mod ReplyNames
pub mod OwnCommits
pub mod Stood
pub mod Replies
