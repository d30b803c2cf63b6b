pub mod Records
pub mod Consistent
pub mod Founds
pub mod Headline
pub mod Outcomes
pub mod Peeks
pub mod Requests
pub mod Snapshots
pub mod Calls
pub mod Solo
pub mod Refusals
-- Of the crates below, for the crates above.
pub use Rattle.fb_entries.specs.Parse as Parse
pub use Rattle.fb_entries.specs.Library as Library
pub use Rattle.fb_entries.specs.Index as Index
pub use Rattle.fb_entries.specs.Placing as Placing
pub use Rattle.fb_entries.specs.Deploy as Deploy
pub use Rattle.fb_entries.specs.Jobs as Jobs
pub use Rattle.fb_history.specs as History
