pub mod LivesLemmas
