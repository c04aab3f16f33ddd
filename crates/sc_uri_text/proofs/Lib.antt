pub mod Addresses
pub mod ParamSteps
pub mod ReadingSteps
pub mod WrittenLaws
