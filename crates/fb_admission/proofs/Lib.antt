pub mod Crossing
pub mod FirstLines
