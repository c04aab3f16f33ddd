pub mod Replies
pub mod Came
pub mod Fields
