-- Lemmas of the proofs.
pub mod InnerInstances
pub mod NameLemmas
pub mod NetworkLemmas
pub mod NothingLemmas
pub mod PortLemmas
pub mod CleanUnits
pub mod FlatLocality
pub mod MentionLemmas
pub mod OrderLemmas
pub mod NetLemmas
pub mod OneNet
pub mod SaidFar
pub mod NetLocality
pub mod FarNames
pub mod Depths
pub mod ComputedFlats
pub mod ComputedNets
pub mod NetUnchanged
pub mod HintLemmas
pub mod SoundLemmas
pub mod KeptLemmas
pub mod RestLemmas
pub mod CountLemmas
pub mod ComposeLemmas
pub mod FlatsLemmas
pub mod InnerNets
pub mod SuspectLemmas
-- Of the crates below, for the crates above.
pub use Rattle.fb_types.proofs.Parse as Parse
pub use Rattle.fb_types.proofs.Library as Library
pub use Rattle.fb_types.proofs.Iface as Iface
pub use Rattle.fb_faults.proofs as Faults
