-- Lemmas of the proofs.
pub mod Locality
pub mod DecidedLemmas
pub mod ExploreLemmas
pub mod FilterLemmas
pub mod GraphLemmas
pub mod OrderLocality
pub mod NameLemmas
pub mod OrderLemmas
pub mod PartLemmas
pub mod ReachLemmas
pub mod SearchLemmas
pub mod StackLemmas
pub mod SearchOfUnit
pub mod FoundUnits
pub mod KindLemmas
pub mod UncachedLemmas
pub mod TableLemmas
pub mod Counting
-- Of the crates below, for the crates above.
pub use Rattle.fb_tree.proofs.Text as Text
pub use Rattle.fb_iface.proofs.Parse as Parse
pub use Rattle.fb_iface.proofs.Library as Library
pub use Rattle.fb_iface.proofs as Iface
pub use Rattle.fb_network.proofs as Network
