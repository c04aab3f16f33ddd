pub mod Entries
pub mod Readings
pub mod OnceLaws
pub mod TakenLists
pub mod TakenSingles
pub mod EndLaws
pub mod LineLaws
pub mod StartLaws
pub mod Running
pub mod WholeLaws
pub mod PartTexts
pub mod AddressTexts
pub mod Segments
pub mod WrittenFields
pub mod WrittenHeads
pub mod WrittenLaws
pub mod LeftLists
pub mod LeftSingles
pub mod PieceLaws
pub mod ReadLines
pub mod ReadStarts
pub mod ReadWhole
pub mod KeptParts
pub mod KeptLaws
mod SpellingCases
mod ResponseCase
pub mod MadeLaws
pub mod NeverAnother
