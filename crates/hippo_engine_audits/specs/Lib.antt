pub mod Watching
pub mod Explaining
pub mod Auditing
pub mod Stepping
