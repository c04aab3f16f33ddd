pub mod Mapping
pub mod Contacts
