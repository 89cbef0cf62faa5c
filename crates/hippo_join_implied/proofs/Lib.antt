pub mod ListLemmas
pub mod LoopLemmas
pub mod MovedLemmas
pub mod ImpliedLemmas
mod ImpliedExamples
