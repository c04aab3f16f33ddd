pub mod Serials
pub mod Settling
pub mod NumberedHosts
pub mod NumberedNets
pub mod NumberedRuns
pub mod HostCounts
