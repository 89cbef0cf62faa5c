pub mod KeyLemmas
pub mod CellLemmas
pub mod SaidLemmas
pub mod AddLemmas
pub mod BookLemmas
pub mod TakeBackLemmas
pub mod GateLemmas
pub mod VerdictLemmas
