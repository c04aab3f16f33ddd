pub mod Reliable
pub mod Refreshing
