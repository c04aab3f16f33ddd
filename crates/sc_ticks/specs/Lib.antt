pub mod Firsts
pub mod Items
pub mod Running
pub mod Due
