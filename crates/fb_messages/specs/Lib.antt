-- What the contracts of this crate cite.
pub mod Requests
pub mod RequestView
pub mod Replies
pub mod ReplyView
pub mod Tokens
-- Of the crates below, for the crates above.
pub use Rattle.fb_jobs.specs as Jobs
