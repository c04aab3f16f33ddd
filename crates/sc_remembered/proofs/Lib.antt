pub mod Parts
pub mod Shown
pub mod Ended
pub mod Chains
pub mod EarlyTurns
pub mod Others
pub mod Lives
pub mod Played
