-- What the contracts of this crate cite.
pub mod Placed
pub mod Laws
-- Of the crates below, for the crates above.
pub use Rattle.fb_placing.specs.Tree as Tree
pub use Rattle.fb_flatten.specs.Parse as Parse
pub use Rattle.fb_flatten.specs.Library as Library
pub use Rattle.fb_flatten.specs.Iface as Iface
pub use Rattle.fb_flatten.specs.Faults as Faults
pub use Rattle.fb_placing.specs.Network as Network
pub use Rattle.fb_placing.specs as Placing
pub use Rattle.fb_flatten.specs as Flatten
