pub mod Pasts
pub mod Standing
