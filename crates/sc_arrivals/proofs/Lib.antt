pub mod Arrivals
pub mod FirstHosts
