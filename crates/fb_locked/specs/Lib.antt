pub mod Seats
pub mod Book
pub mod Refusals
pub mod Calls
pub mod Ends
pub mod Runs
pub mod Closing
pub mod Resuming
pub mod Rolling
pub mod Reads
-- Of the crates below, for the crates above.
pub use Rattle.fb_bench.specs.Parse as Parse
pub use Rattle.fb_bench.specs.Library as Library
pub use Rattle.fb_bench.specs.Index as Index
pub use Rattle.fb_bench.specs.Placing as Placing
pub use Rattle.fb_bench.specs.Deploy as Deploy
pub use Rattle.fb_bench.specs.Jobs as Jobs
pub use Rattle.fb_bench.specs.History as History
pub use Rattle.fb_bench.specs as Bench
