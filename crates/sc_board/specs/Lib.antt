pub mod Boards
pub mod JobRules
pub mod ResultRules
pub mod Ties
