pub mod NewNames
pub mod ColumnIndexLemmas
pub mod ComparedOperands
pub mod DifferLemmas
pub mod ListLemmas
pub mod Refused
pub mod RepeatLemmas
mod ChangesExamples
mod SelectExamples
mod AuditExamples
