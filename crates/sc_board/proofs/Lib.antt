pub mod HandSteps
pub mod JobSteps
pub mod ResultSteps
pub mod Totals
pub mod Works
