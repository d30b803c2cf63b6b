-- Lemmas of the proofs.
pub mod PlanLocal
pub mod ComputedPlans
pub mod PlanUnchanged
-- Of the crates below, for the crates above.
pub use Rattle.fb_mapping.proofs.Parse as Parse
pub use Rattle.fb_mapping.proofs.Library as Library
pub use Rattle.fb_mapping.proofs.Iface as Iface
pub use Rattle.fb_mapping.proofs.Faults as Faults
pub use Rattle.fb_mapping.proofs.Flatten as Flatten
