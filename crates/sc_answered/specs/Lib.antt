pub mod StateOf
pub mod Happened
pub mod Needed
pub mod Causes
pub mod LiveStates
