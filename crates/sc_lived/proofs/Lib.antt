pub mod LivedHosts
pub mod LivedNets
pub mod OtherTurns
pub mod OwnTurns
pub mod Lives
pub mod Sayings
pub mod Accepted
pub mod Since
