mod Basics
mod PlaceLaws
mod PairLaws
mod FoundLaws
mod PlaceSets
mod GatherLaws
mod FreshLaws
mod TopLaws
mod FirstLaws
mod CountLaws
mod RowLaws
mod FindLaws
mod WalkLaws
mod KeepLaws
pub mod Uses
