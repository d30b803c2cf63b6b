pub mod Counts
pub mod Crossing
pub mod AddedReceipts
pub mod Prints
pub mod Sessions
