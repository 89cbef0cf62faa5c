pub mod SetPlaces
mod PairLemmas
mod TellingExamples
