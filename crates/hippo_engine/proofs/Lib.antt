pub mod CarryingLemmas
pub mod QuietLemmas
pub mod ChangeLemmas
pub mod JobLemmas
mod WatchLemmas
