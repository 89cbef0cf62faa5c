pub mod ExaminingLemmas
pub mod KeyColumns
pub mod NeededExamples
pub mod PastLemmas
pub mod PlainTheorem
pub mod QueryTheorem
pub mod RowLemmas
pub mod SeenTheorem
pub mod ServingTheorem
mod AloneLemmas
mod MarkLemmas
mod MarksTheorem
mod ChangingTheorem
mod TakenLemmas
