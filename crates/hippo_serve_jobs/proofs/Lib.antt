pub mod StatusLemmas
mod KeptLemmas
mod AskedLemmas
mod RunLemmas
mod TurnLemmas
mod FirstLemmas
mod TakenLemmas
mod OutcomeLemmas
mod DrillLemmas
