pub mod LiveTurns
mod SilentEnds
mod TurnedHosts
