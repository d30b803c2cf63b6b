-- What the contracts of this crate cite.
pub mod FirstEntry
pub mod Points
pub mod Systems
pub mod Mappings
pub mod Resolved
pub mod Tables
pub mod Resolver
pub mod Homes
pub mod Cuts
pub mod HomeTable
pub mod Found
pub mod Laws
pub mod ConstantTexts
pub mod PlacedCommands
pub mod ResourceCommand
pub mod SystemCommands
pub mod PlainResource
pub mod Resources
pub mod TextParts
pub mod Created
pub mod PlainPlan
pub mod CommandIndexes
pub mod ByResource
pub mod Commands
-- Of the crates below, for the crates above.
pub use Rattle.fb_tree.specs as Tree
pub use Rattle.fb_network.specs as Network
