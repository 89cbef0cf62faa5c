pub mod Existence
pub mod Settling
pub mod Plans
pub mod Walked
