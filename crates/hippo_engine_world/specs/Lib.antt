pub mod Auditing
pub mod Holding
