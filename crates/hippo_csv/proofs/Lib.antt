pub mod RecordLemmas
mod NumberLemmas
mod ValueLemmas
mod WriterLemmas
mod MarkLemmas
mod FieldTheorem
pub mod RoundTripTheorem
mod RecordExamples
