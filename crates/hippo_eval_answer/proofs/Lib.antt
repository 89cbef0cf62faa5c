mod StateExamples
pub mod AnswerLemmas
mod LineLemmas
