pub mod Goodbyes
