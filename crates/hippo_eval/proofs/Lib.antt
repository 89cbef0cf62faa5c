pub mod TruthLemmas
pub mod UnmaskedLemmas
pub mod WalkLemmas
pub mod KeptLemmas
pub mod FoundLemmas
