pub mod Documents
pub mod KeyValues
pub mod Faults
pub mod ReadSettings
