pub mod Locality
pub mod TreeLemmas
