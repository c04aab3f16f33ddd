pub mod Blanks
pub mod Rows
pub mod Parting
pub mod TupleSteps
pub mod LineSteps
pub mod TupleTexts
pub mod WrittenParts
pub mod WrittenTuples
pub mod WrittenLines
pub mod WrittenTables
pub mod Kept
mod KeptRules
mod Cases
