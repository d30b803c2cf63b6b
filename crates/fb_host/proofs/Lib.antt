pub mod Crossing
pub mod SessionLemmas
pub mod Shorts
