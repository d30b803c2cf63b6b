pub mod Exchange
pub mod File
pub mod Hmac
