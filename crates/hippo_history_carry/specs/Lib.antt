pub mod Carrying
pub mod Decisions
pub mod Leaving
pub mod CarryLaws
