pub mod AuditLemmas
pub mod SlotLemmas
