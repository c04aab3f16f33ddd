pub mod Checking
pub mod Commands
pub mod Making
pub mod Putting
pub mod Replaying
pub mod Running
pub mod Trying
