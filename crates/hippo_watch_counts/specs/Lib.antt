pub mod Rows
pub mod Counts
