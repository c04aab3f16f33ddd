pub mod Answers
pub mod Beginnings
pub mod Counting
pub mod Ledger
pub mod Lengths
pub mod Offering
pub mod Standing
pub mod Stepping
