pub mod Beginnings
pub mod Epochs
pub mod Firsts
pub mod Fitting
pub mod Handing
pub mod Idle
pub mod Ledger
pub mod Listings
pub mod Names
pub mod Nexts
pub mod Sames
pub mod Sendings
pub mod Standings
pub mod WrittenLengths
mod Busy
