pub mod ConditionLemmas
pub mod RowLemmas
pub mod UseLemmas
pub mod LendingLemmas
pub mod SharingLemmas
pub mod SearchLemmas
pub mod FlagLemmas
pub mod QuestionLemmas
pub mod ColumnLemmas
pub mod AuditLemmas
pub mod OrderLemmas
pub mod DisclosingLemmas
mod UsesExamples
