pub mod Histories
pub mod Crossing
pub mod Refusals
mod Holds
