pub mod StartLemmas
pub mod WriteLemmas
