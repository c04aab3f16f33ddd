pub mod HostTaking
pub mod HostsAt
pub mod Literals
pub mod NamedHosts
mod Answering
