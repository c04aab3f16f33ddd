pub mod Dues
pub mod GivingUp
pub mod Hearing
pub mod Moving
pub mod Polling
pub mod Stepping
pub mod Serving
