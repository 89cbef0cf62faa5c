pub mod LengthLemmas
pub mod ChangeLemmas
mod LoadLemmas
pub mod AskingLemmas
pub mod AuditLemmas
pub mod EntryLemmas
pub mod FollowingLemmas
mod AskedLemmas
mod BoxLemmas
mod FindingLemmas
mod RequestLemmas
mod LookUpLemmas
