pub mod NetMoments
pub mod RunMoments
pub mod ScriptTicks
pub mod FollowTicks
pub mod UptoTicks
pub mod PastHosts
pub mod PastNets
pub mod PastRuns
