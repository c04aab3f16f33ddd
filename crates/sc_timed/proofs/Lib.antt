mod TimedTurns
mod OtherTimers
mod TimedChains
mod TimedLive
mod Granted
