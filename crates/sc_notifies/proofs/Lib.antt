pub mod ActLaws
pub mod ChangePlays
pub mod Kept
pub mod NotifyCalls
pub mod NotifyPlays
pub mod StateLaws
pub mod SubLaws
pub mod SubLed
