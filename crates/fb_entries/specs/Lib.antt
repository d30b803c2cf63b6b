pub mod Keyed
pub mod Marking
pub mod Renew
pub mod Indexed
pub mod Found
-- Of the crates below, for the crates above.
pub use Rattle.fb_jobs.specs.Parse as Parse
pub use Rattle.fb_index.specs.Library as Library
pub use Rattle.fb_index.specs as Index
pub use Rattle.fb_jobs.specs.Placing as Placing
pub use Rattle.fb_jobs.specs.Deploy as Deploy
pub use Rattle.fb_jobs.specs as Jobs
