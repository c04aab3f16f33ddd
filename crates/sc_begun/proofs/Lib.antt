pub mod FirstHosts
pub mod FirstNets
pub mod FirstSessions
pub mod FirstProxies
pub mod FirstGiven
pub mod FirstTurns
