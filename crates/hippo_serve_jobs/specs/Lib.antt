pub mod Endings
pub mod Loads
pub mod Saying
pub mod Keeping
pub mod Outside
pub mod Runs
pub mod Outcomes
pub mod Drilling
