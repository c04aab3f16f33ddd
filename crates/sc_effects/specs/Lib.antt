pub mod Elements
pub mod Tidied
