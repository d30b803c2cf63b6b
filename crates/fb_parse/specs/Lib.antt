-- What the contracts of this crate cite.
pub mod Contents
pub mod SystemContents
pub mod Chart
pub mod Grammar
pub mod Frames
pub mod Body
pub mod Source
pub mod Read
-- Of the crates below, for the crates above.
pub use Rattle.fb_tree.specs.Text as Text
pub use Rattle.fb_tree.specs as Tree
pub use Rattle.fb_structured_text.specs.Forms as Forms
pub use Rattle.fb_sections.specs as Sections
