pub mod Arguments
pub mod Endings
pub mod Lines
pub mod Saying
pub mod Starting
