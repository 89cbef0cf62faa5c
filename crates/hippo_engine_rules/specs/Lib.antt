pub mod Effects
pub mod EffectLaws
pub mod Ledgers
pub mod Runs
