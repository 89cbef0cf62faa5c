pub mod ChangesLemmas
mod RuleLemmas
