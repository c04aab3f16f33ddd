pub mod EarlyLives
