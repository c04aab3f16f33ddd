pub mod OfferScripts
pub mod Offering
