pub mod Following
pub mod Heard
pub mod Hearing
pub mod Next
pub mod Outputs
