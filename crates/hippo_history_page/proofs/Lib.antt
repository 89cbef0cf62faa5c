mod EscapeLemmas
mod PageExamples
