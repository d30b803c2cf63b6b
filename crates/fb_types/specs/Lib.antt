-- What the contracts of this crate cite.
pub mod Ports
pub mod Networks
pub mod Applications
pub mod ByName
pub mod Local
pub mod Reaches
pub mod Order
pub mod Steps
pub mod Graph
pub mod LocalOrder
pub mod Units
pub mod Net
pub mod Hints
pub mod Counts
pub mod Holders
pub mod Tables
-- Of the crates below, for the crates above.
pub use Rattle.fb_tree.specs.Text as Text
pub use Rattle.fb_tree.specs as Tree
pub use Rattle.fb_iface.specs.Forms as Forms
pub use Rattle.fb_iface.specs.Sections as Sections
pub use Rattle.fb_iface.specs.Parse as Parse
pub use Rattle.fb_iface.specs.Library as Library
pub use Rattle.fb_iface.specs as Iface
pub use Rattle.fb_network.specs as Network
