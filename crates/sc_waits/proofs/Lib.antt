pub mod GrowingHosts
pub mod GrowingNets
pub mod OtherTurns
pub mod Steps
