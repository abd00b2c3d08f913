pub mod Spellings
pub mod Cursors
pub mod Appenders
