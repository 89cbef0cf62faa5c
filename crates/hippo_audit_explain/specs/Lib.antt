pub mod Listing
pub mod Denying
