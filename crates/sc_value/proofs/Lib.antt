pub mod ListFacts
pub mod NumberLaws
pub mod OtherLaws
pub mod PlaceLaws
