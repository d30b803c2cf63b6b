pub mod Bits
mod Listed
pub mod Lookups
pub mod Replacing
pub mod Units
pub mod Walks
-- Of the crates below, for the crates above.
pub use Rattle.fb_library.proofs as Library
