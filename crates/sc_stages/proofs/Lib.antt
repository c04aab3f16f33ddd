pub mod Places
pub mod ClientStanding
pub mod ServerStanding
