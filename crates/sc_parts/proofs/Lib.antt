pub mod TimerLaws
