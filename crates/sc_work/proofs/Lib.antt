pub mod Endings
pub mod Pieced
pub mod Plays
