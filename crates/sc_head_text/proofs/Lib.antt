pub mod PartSteps
pub mod LineParts
pub mod ValueSteps
pub mod ReadValues
pub mod WrittenValues
pub mod KeptValues
