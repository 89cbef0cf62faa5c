mod LineLemmas
mod RefusalLemmas
mod QuestionLemmas
mod LookingLemmas
mod ExplainingLemmas
mod AuditingLemmas
mod StepLemmas
mod PerformingLemmas
