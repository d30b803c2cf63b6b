mod AgainLemmas
pub mod CleanLemmas
pub mod JoinLemmas
pub mod KnownLemmas
pub mod Locality
pub mod RepeatLemmas
pub mod RightLemmas
-- Of the crates below, for the crates above.
pub use Rattle.fb_iface.proofs.Library as Library
pub use Rattle.fb_iface.proofs as Iface
