pub mod Skipping
pub mod Predictive
