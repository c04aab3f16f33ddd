pub mod Closing
pub mod Polls
pub mod Running
pub mod Served
