pub mod OwnUris
pub mod Reading
