pub mod Records
pub mod NoFields
