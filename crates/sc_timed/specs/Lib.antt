pub mod TimedActs
pub mod TimedLives
