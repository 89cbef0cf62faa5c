pub mod Places
pub mod Known
pub mod Lookups
pub mod Ties
pub mod Lists
