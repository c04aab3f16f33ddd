pub mod Acts
pub mod Quiet
