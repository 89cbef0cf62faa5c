mod ByteLemmas
mod CutLemmas
mod FeedLemmas
mod HandedLemmas
pub mod InputLemmas
mod LineLemmas
mod NextLemmas
mod ReadLemmas
pub mod SeenLemmas
mod ToldLemmas
