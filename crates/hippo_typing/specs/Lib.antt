pub mod Pairs
pub mod Meanings
pub mod MeaningLaws
pub mod Found
pub mod FoundSelects
pub mod FoundAudits
pub mod ResolutionLaws
