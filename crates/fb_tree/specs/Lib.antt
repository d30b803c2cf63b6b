-- What the contracts of this crate cite.
pub mod Reference
pub mod Expression
pub mod Statement
pub mod Tree
pub mod Mentions
-- Of the crates below, for the crates above.
pub use Rattle.fb_text.specs as Text
