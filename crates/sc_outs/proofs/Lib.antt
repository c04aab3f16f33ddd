pub mod Apart
pub mod EntryLaws
pub mod Stretchings
pub mod Owings
pub mod Laws
pub mod Numbers
pub mod Puttings
