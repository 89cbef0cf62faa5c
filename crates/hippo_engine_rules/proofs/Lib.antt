pub mod ExampleLines
mod RunExamples
mod LedgerExamples
pub mod EffectTheorem
pub mod JudgedLemmas
pub mod ShortLemmas
pub mod ClockLemmas
pub mod LedgerLemmas
pub mod RunLemmas
mod SpeakerLemmas
