pub mod TimerNames
