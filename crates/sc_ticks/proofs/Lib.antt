pub mod DueHosts
pub mod FirstItems
pub mod Runnings
mod MarkedHosts
