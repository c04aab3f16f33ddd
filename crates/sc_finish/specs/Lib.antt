pub mod Ends
pub mod Partings
pub mod Passing
pub mod Sweeps
