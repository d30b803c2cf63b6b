-- What the contracts of this crate cite.
pub mod Entries
pub mod Place
pub mod Seen
pub mod Shelves
pub mod Parts
pub mod View
pub mod Opened
pub mod Near
pub mod Rests
pub mod Local
pub mod Texts
pub mod Changes
pub mod Filed
-- Of the crates below, for the crates above.
pub use Rattle.fb_parse.specs.Forms as Forms
pub use Rattle.fb_parse.specs.Sections as Sections
pub use Rattle.fb_parse.specs as Parse
