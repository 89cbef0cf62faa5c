pub mod ExistenceLemmas
pub mod SettlingLemmas
pub mod OrderLemmas
pub mod VisitingLemmas
pub mod GatheringLemmas
pub mod PlannedLemmas
