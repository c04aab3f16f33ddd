pub mod Freedom
pub mod Setups
