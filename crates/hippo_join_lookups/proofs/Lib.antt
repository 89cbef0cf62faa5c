pub mod PlaceSteps
pub mod KnownLemmas
pub mod SlotLemmas
pub mod LookupLemmas
pub mod PartLemmas
pub mod PruneLemmas
pub mod ListLemmas
