mod SpaceLemmas
mod ValueLemmas
pub mod FormLemmas
mod LineFormsExamples
pub mod MomentLemmas
pub mod StatementLemmas
pub mod CommandExamples
