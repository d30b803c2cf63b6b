-- What the contracts of this crate cite.
pub mod Settings
pub mod Ends
pub mod Sides
pub mod Paths
pub mod Repeats
pub mod Again
pub mod Spellings
pub mod Known
pub mod Types
pub mod Connections
pub mod Parameters
pub mod Networks
pub mod Local
pub mod Clean
-- Of the crates below, for the crates above.
pub use Rattle.fb_iface.specs.Parse as Parse
pub use Rattle.fb_iface.specs.Library as Library
pub use Rattle.fb_iface.specs as Iface
