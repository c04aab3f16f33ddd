pub mod Filled
pub mod Outlines
pub mod Runs
pub mod Scopes
pub mod Spots
