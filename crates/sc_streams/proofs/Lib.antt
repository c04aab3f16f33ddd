pub mod Fronts
pub mod Pendings
