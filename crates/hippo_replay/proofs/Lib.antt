pub mod SchemaLemmas
pub mod StateLemmas
pub mod AcceptanceLemmas
pub mod TakingInLemmas
pub mod KeeperLemmas
pub mod ReadingLemmas
pub mod LoadingLemmas
pub mod RecordingLemmas
mod StandingExamples
