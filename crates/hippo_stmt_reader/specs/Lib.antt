pub mod StatementGrammar
pub mod StatementFinder
