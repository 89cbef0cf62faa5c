pub mod Implied
pub mod ImpliedLaws
