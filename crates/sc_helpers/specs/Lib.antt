pub mod Leading
pub mod Parts
pub mod Stopping
