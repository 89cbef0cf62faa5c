pub mod Held
pub mod Bringing
pub mod Sharing
pub mod Combining
pub mod Asked
