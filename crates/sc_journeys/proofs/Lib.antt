pub mod Walk
pub mod Starts
pub mod Law
