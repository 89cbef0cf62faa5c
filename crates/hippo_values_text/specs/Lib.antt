pub mod Dates
pub mod Printing
pub mod Quoting
