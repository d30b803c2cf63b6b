-- What the contracts of this crate cite.
pub mod States
pub mod Events
pub mod Algorithms
pub mod Charts
pub mod Local
