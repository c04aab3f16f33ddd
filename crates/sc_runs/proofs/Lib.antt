pub mod NextMaps
pub mod Vias
pub mod FollowMaps
pub mod HeardParts
