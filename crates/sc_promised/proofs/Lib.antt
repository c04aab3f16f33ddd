pub mod Attributes
pub mod Texts
pub mod OfferLaws
pub mod Endings
pub mod Traces
pub mod Waiting
pub mod DeadlineLaws
pub mod Refreshes
