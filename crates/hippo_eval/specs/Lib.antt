pub mod LentCells
pub mod PartTruths
pub mod Answering
pub mod Gathering
pub mod Walks
pub mod Unmasked
