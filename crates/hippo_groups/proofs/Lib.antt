pub mod BestLemmas
pub mod GroupLemmas
pub mod KeptLemmas
pub mod JoinLemmas
pub mod BestTheorem
