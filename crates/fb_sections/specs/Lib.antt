-- The forms of the sections of declarations.
pub mod Constants
pub mod Sections
pub mod Interface
pub mod Network
pub mod Chart
pub mod SystemParts
pub mod Skipped
