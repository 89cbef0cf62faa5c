pub mod States
pub mod Lines
