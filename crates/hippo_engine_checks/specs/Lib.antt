pub mod Deeds
pub mod Checks
pub mod Judging
pub mod Changes
pub mod Asking
pub mod Entries
pub mod Findings
