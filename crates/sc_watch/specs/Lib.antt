pub mod Risings
pub mod Keeping
