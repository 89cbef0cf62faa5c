pub mod Script
pub mod Kinds
pub mod Scripting
pub mod Counting
pub mod Tallies
