pub mod Writes
pub mod KeySteps
pub mod Again
pub mod Indexing
pub mod Reached
pub mod Findings
mod Counts
mod Firsts
mod Present
-- Of the crates below, for the crates above.
pub use Rattle.fb_index.proofs.Library as Library
pub use Rattle.fb_jobs.proofs as Jobs
