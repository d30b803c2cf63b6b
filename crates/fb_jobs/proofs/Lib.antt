pub mod Alike
pub mod KindLemmas
pub mod Order
pub mod Members
pub mod SameNeeds
pub mod Sources
pub mod Currents
pub mod HintLemmas
pub mod CachedLemmas
pub mod WorkLemmas
pub mod Searches
pub mod TextLemmas
pub mod ReplacedLemmas
pub mod ReuseLemmas
pub mod Again
-- Of the crates below, for the crates above.
pub use Rattle.fb_deploy.proofs.Library as Library
pub use Rattle.fb_deploy.proofs.Flatten as Flatten
