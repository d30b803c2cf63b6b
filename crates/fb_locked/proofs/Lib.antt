pub mod Closings
pub mod EachCaller
pub mod NextReceipts
pub mod Rolls
pub mod Takes
pub mod Works
