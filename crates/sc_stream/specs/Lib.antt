pub mod Answers
pub mod Ends
pub mod Fields
pub mod Frames
pub mod Hearing
pub mod Knowing
