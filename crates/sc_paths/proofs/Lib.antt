pub mod MomentLaws
pub mod PathLaws
mod Journals
mod Trials
mod PathCases
mod TriedPaths
