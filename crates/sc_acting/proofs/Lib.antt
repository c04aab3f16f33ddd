pub mod Beside
pub mod Busy
pub mod Paged
pub mod Starts
pub mod Still
