pub mod CodeLemmas
pub mod CountLemmas
pub mod EarlierLemmas
pub mod DuplicateLemmas
pub mod FaultLemmas
pub mod FieldLemmas
pub mod FieldsLocal
pub mod FindLemmas
pub mod NameLemmas
pub mod PlaceLemmas
pub mod RepeatLemmas
pub mod ScopeLemmas
pub mod ScopeLocal
pub mod TableLemmas
pub mod TreeLemmas
-- Of the crates below, for the crates above.
pub use Rattle.fb_library.proofs.Parse as Parse
pub use Rattle.fb_library.proofs as Library
