mod HostUses
mod NamedLives
