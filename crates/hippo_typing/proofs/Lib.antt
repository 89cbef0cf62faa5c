pub mod MeaningTheorem
pub mod GroupLemmas
pub mod FoundTheorem
pub mod PairLemmas
pub mod AuditTheorem
pub mod LastingNames
pub mod LastingMeanings
pub mod CatalogTheorem
