pub mod MergeOrder
pub mod NamedEntries
