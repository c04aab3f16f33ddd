pub mod TakenParts
pub mod UriParams
