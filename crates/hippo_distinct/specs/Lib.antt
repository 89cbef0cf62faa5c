pub mod DistinctRows
pub mod DistinctNeeds
pub mod GroupedNeeds
