pub mod Intervals
pub mod Refreshing
pub mod TimedScripts
