-- Lemmas of the proofs.
pub mod KindLemmas
pub mod OnePlacement
pub mod PlaceLocal
-- Of the crates below, for the crates above.
pub use Rattle.fb_flatten.proofs.Parse as Parse
pub use Rattle.fb_flatten.proofs.Library as Library
pub use Rattle.fb_flatten.proofs.Iface as Iface
pub use Rattle.fb_flatten.proofs.Faults as Faults
pub use Rattle.fb_placing.proofs as Placing
pub use Rattle.fb_flatten.proofs as Flatten
