pub mod MentionLemmas
-- Of the crates below, for the crates above.
pub use Rattle.fb_text.proofs as Text
