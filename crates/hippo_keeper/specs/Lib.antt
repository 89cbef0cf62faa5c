pub mod Answering
pub mod Keeping
pub mod MemoryKeeping
pub mod Paging
pub mod Selecting
pub mod Standings
pub mod Telling
