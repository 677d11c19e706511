pub mod Told
pub mod FilesLemmas
pub mod Made
pub mod ListingLemmas
pub mod HonestLemmas
