pub mod DeedLemmas
pub mod PlaceLemmas
pub mod FlagLemmas
pub mod JobTheorem
pub mod WatchTheorem
mod RunExamples
