pub mod Stops
pub mod SilentTurns
