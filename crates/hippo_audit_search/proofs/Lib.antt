pub mod FirstLemmas
pub mod KeyLemmas
pub mod CommonLemmas
pub mod TupleLemmas
pub mod SideLemmas
pub mod MarkLemmas
pub mod CandidateLemmas
pub mod AmongLemmas
pub mod SearchLemmas
pub mod ToldLemmas
pub mod FewLemmas
pub mod SharedTheorem
pub mod HistoryLemmas
mod SharingExamples
