pub mod Contents
pub mod Leaving
pub mod Links
pub mod Openings
pub mod Outcomes
pub mod Standings
