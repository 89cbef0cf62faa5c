mod AddLemmas
mod DecideLemmas
mod LeaveLemmas
pub mod LeftLemmas
mod CarryExamples
pub mod WordLemmas
mod RowLemmas
mod VerdictLemmas
