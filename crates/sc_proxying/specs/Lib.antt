pub mod Proxying
