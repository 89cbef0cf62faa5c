mod AnswerExamples
pub mod ExampleHistories
mod DayExamples
mod AuditExamples
mod DamageExamples
mod StoreExamples
mod RetentionExamples
mod FormExamples
mod HandedOverExamples
mod FlagExamples
mod OrderExamples
pub mod Codes
pub mod ActCodes
pub mod TruthWithChange
pub mod ValidFronts
pub mod OneStore
pub mod NeededTuples
pub mod OwnConditions
pub mod HitsTheorem
