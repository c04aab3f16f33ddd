pub mod ComingFacts
pub mod ComingTold
pub mod EdgeLaws
pub mod EdgePutLaws
pub mod PlaceFacts
pub mod PlaceGrowth
