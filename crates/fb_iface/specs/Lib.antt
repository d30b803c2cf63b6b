-- What the contracts of this crate cite.
pub mod Code
pub mod Fault
pub mod Names
pub mod Spaces
pub mod Sides
pub mod Ports
pub mod ByName
pub mod Withs
pub mod Class
pub mod Literals
pub mod Types
pub mod Scope
pub mod ScopeTypes
pub mod Recursion
pub mod Fields
pub mod CachedFields
pub mod Declarations
-- Of the crates below, for the crates above.
pub use Rattle.fb_library.specs.Forms as Forms
pub use Rattle.fb_library.specs.Sections as Sections
pub use Rattle.fb_library.specs.Parse as Parse
pub use Rattle.fb_library.specs as Library
