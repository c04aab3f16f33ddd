pub mod Followings
pub mod Hearings
pub mod LineSteps
pub mod Playings
pub mod Steppings
