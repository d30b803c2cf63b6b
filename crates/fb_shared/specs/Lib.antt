pub mod Seated
pub mod UnderLock
-- Of the crates below, for the crates above.
pub use Rattle.fb_locked.specs as Locked
