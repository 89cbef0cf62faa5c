pub mod EditLemmas
mod ListLemmas
pub mod OrderLemmas
pub mod ReadLemmas
mod SelectLemmas
mod TestLemmas
pub mod TextLemmas
