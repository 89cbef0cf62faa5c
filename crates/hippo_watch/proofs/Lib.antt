pub mod AlarmLemmas
pub mod WatchLemmas
