pub mod Notifying
pub mod States
pub mod SubScripts
