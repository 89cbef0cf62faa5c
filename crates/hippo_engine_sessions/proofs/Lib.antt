pub mod HeldLemmas
pub mod NumberLemmas
mod WorldsExamples
