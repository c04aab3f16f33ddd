pub mod Playing
pub mod Trying
mod CallCases
mod ProxyCases
pub mod ChainCases
mod OfferCases
mod TimerCases
mod SubscriptionCases
mod WorkedCases
