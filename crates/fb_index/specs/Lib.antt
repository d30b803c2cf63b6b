-- What the contracts of this crate cite.
pub mod Users
pub mod Indexed
pub mod Near
pub mod Steps
-- Of the crates below, for the crates above.
pub use Rattle.fb_library.specs as Library
