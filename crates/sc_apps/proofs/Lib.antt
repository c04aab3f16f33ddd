pub mod Legs
pub mod Playing
pub mod Readable
