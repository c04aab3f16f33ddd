pub mod Hearing
pub mod Leading
pub mod Moving
pub mod Playing
