pub mod Appended
pub mod CarriedLemmas
pub mod Counts
pub mod EntryLemmas
pub mod Halves
pub mod ShelfRows
pub mod Mentioned
pub mod Names
pub mod Places
pub mod Wider
pub mod Searches
pub mod SeenLemmas
pub mod Tables
pub mod OnShelves
pub mod Opening
pub mod FarLemmas
pub mod Locality
pub mod Sources
pub mod Units
pub mod WalkLemmas
-- Of the crates below, for the crates above.
pub use Rattle.fb_parse.proofs as Parse
