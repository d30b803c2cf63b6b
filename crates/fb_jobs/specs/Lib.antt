-- What the contracts of this crate cite.
pub mod KeyOrder
pub mod Keys
pub mod Kinds
pub mod Reads
pub mod Values
pub mod Texts
pub mod Replaced
pub mod Cache
pub mod Rules
pub mod Reach
pub mod Hints
pub mod Cached
pub mod Work
pub mod Reuse
pub mod Again
pub mod Finished
-- Of the crates below, for the crates above.
pub use Rattle.fb_deploy.specs.Parse as Parse
pub use Rattle.fb_deploy.specs.Library as Library
pub use Rattle.fb_deploy.specs.Iface as Iface
pub use Rattle.fb_deploy.specs.Placing as Placing
pub use Rattle.fb_deploy.specs.Flatten as Flatten
pub use Rattle.fb_deploy.specs as Deploy
