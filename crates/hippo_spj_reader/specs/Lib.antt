pub mod ConditionFinder
pub mod ConditionGrammar
pub mod Front
pub mod ListFinder
pub mod ListGrammar
pub mod Promises
pub mod SelectFinder
pub mod SelectGrammar
