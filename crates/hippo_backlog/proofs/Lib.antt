pub mod VersionsTheorem
pub mod NumberLemmas
pub mod AheadLemmas
pub mod CallLemmas
mod TakingLemmas
pub mod VersionLemmas
pub mod SnapshotLemmas
