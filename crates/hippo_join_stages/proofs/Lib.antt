pub mod ProductLemmas
pub mod FoundLemmas
pub mod KeyLemmas
pub mod RangeLemmas
pub mod ReachLemmas
pub mod SeekingLemmas
pub mod FindingLemmas
pub mod SufficeLemmas
