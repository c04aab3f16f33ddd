pub mod Entries
pub mod Groups
pub mod Hosts
pub mod Keeping
pub mod Resting
pub mod Sharing
pub mod Standing
