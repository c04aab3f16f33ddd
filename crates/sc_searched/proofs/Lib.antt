pub mod Ends
pub mod Best
pub mod Going
pub mod Resting
pub mod Answering
pub mod Exhausted
