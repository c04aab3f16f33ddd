pub mod Refreshers
pub mod TimedCalls
pub mod TimedLaws
pub mod TimedLed
pub mod TimedPlays
