pub mod Pieces
pub mod RowSets
pub mod Searches
pub mod Changes
