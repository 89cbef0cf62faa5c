mod ContentsLemmas
mod KeeperLemmas
mod StateLemmas
pub mod LeavingLemmas
