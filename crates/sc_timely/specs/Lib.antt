pub mod Timely
