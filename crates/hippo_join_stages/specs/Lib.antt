pub mod Keys
pub mod Ranges
pub mod Stages
pub mod Finding
pub mod Walking
pub mod Visiting
pub mod Guards
