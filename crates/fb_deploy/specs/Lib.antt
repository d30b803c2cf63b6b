-- What the contracts of this crate cite.
pub mod Deploy
pub mod Laws
pub mod Plans
-- Of the crates below, for the crates above.
pub use Rattle.fb_mapping.specs.Parse as Parse
pub use Rattle.fb_mapping.specs.Library as Library
pub use Rattle.fb_mapping.specs.Iface as Iface
pub use Rattle.fb_mapping.specs.Faults as Faults
pub use Rattle.fb_mapping.specs.Placing as Placing
pub use Rattle.fb_mapping.specs.Flatten as Flatten
pub use Rattle.fb_mapping.specs as Mapping
