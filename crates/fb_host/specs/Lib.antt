pub mod HostSessions
pub mod Leases
pub mod Pace
pub mod Replies
pub mod Short
