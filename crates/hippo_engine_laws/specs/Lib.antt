pub mod Lines
pub mod Jobs
pub mod Watches
pub mod RunLaws
