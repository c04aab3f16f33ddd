pub mod Brought
pub mod Ranges
pub mod Stated
