pub mod DeskRules
pub mod Desks
