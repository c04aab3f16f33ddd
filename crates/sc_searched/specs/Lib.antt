pub mod Searches
pub mod Endings
