pub mod Formats
pub mod Shown
pub mod Accesses
