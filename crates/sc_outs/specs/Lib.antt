pub mod Deeds
pub mod Stretches
pub mod Owing
pub mod Puts
