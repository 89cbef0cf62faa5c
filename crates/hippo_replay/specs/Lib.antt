pub mod Standing
pub mod NamedPairs
pub mod TakingIn
pub mod Loading
pub mod Reading
pub mod Recording
