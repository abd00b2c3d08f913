pub mod Adding
pub mod Sites
pub mod Reports
pub mod Answered
pub mod Overviews
pub mod Traces
pub mod Summaries
pub mod Texts
