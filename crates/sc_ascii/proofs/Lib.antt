pub mod BlankSteps
pub mod DigitSteps
pub mod Closings
