-- What the contracts of this crate cite.
pub mod Clean
pub mod Nothing
pub mod Locality
pub mod Blocking
pub mod Net
pub mod Tables
pub mod Laws
pub mod Far
pub mod Nets
pub mod Hints
pub mod Suspects
pub mod Inner
pub mod Unchanged
-- Of the crates below, for the crates above.
pub use Rattle.fb_types.specs.Parse as Parse
pub use Rattle.fb_types.specs.Library as Library
pub use Rattle.fb_types.specs.Iface as Iface
pub use Rattle.fb_faults.specs as Faults
pub use Rattle.fb_types.specs as Wiring
