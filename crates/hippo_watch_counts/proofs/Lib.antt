pub mod OwnColumns
pub mod ChangedRows
pub mod ChangedCounts
pub mod Counting
