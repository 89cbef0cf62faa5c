pub mod PartLoops
pub mod PartLemmas
pub mod TextLemmas
pub mod Fields
pub mod EntryAgain
