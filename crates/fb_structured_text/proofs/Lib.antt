pub mod Rows
pub mod Variables
pub mod ExpressionLevels
pub mod StatementLevels
pub mod Bodies
-- Of the crates below, for the crates above.
pub use Rattle.fb_grammar.proofs as Forms
mod Joining
