pub mod FirstTuples
mod Cases
