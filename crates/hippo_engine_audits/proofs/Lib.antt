mod AuditingLemmas
mod AlarmLemmas
