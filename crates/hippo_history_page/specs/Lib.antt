pub mod Escapes
pub mod Words
pub mod Counts
pub mod Pages
