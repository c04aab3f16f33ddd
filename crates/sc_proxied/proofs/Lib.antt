pub mod Lists
pub mod Happenings
