pub mod Worlds
pub mod Tallies
