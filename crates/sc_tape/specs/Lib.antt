pub mod Taped
