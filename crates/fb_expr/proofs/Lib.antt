pub mod DemandLemmas
pub mod Locality
pub mod MemberLemmas
pub mod TreeLemmas
