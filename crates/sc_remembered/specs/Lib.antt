pub mod Acts
pub mod Played
pub mod Early
