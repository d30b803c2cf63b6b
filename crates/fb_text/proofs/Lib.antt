mod StoredLemmas
pub mod NameLemmas
pub mod ScanLemmas
pub mod Longest
pub mod LongestForms
pub mod LongestToken
pub mod Boundaries
pub mod Pieces
pub mod OpenLines
pub mod Reading
pub mod Relation
pub mod OrderLemmas
mod NameOrder
mod SortLemmas
pub mod Members
pub mod Tests
