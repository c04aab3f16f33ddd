pub mod Naming
pub mod NamedHosts
pub mod Claims
pub mod Arriving
pub mod Reaching
pub mod Delivering
