pub mod Inspections
pub mod Nexts
pub mod Findings
