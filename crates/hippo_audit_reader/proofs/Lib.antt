pub mod AuditTheorem
