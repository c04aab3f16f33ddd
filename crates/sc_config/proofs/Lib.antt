pub mod AddressLaws
pub mod DocumentLaws
pub mod NameLaws
pub mod RangeLaws
pub mod SaltLaws
