pub mod AuditFinder
pub mod AuditGrammar
