pub mod Ringing
pub mod Named
