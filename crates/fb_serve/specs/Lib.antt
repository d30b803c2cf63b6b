pub mod Lines
pub mod AddedReceipts
pub mod Sessions
pub mod Shown
pub mod Unsettled
