pub mod Answering
pub mod Listing
