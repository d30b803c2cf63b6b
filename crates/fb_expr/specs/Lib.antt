-- What the contracts of this crate cite.
pub mod Classes
pub mod Rules
pub mod Names
pub mod Spans
pub mod References
pub mod Expressions
pub mod Statements
pub mod Charts
pub mod Demands
