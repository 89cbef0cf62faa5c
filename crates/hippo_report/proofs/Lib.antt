pub mod PieceLemmas
pub mod SpeakerLemmas
