pub mod Joining
pub mod Predictive
pub mod Ending
pub mod Bodies
-- Of the crates below, for the crates above.
pub use Rattle.fb_tree.proofs.Text as Text
