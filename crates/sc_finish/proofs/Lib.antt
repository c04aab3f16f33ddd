pub mod Folds
pub mod Needed
pub mod Outcomes
pub mod Partings
pub mod Passings
