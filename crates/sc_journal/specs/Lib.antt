pub mod Kept
pub mod Pushing
