-- What the contracts of this crate cite.
pub mod Operators
pub mod Expression
pub mod Part
pub mod Statement
-- Of the crates below, for the crates above.
pub use Rattle.fb_grammar.specs as Forms
