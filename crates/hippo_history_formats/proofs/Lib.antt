mod JsonLemmas
mod QuestionLemmas
mod FormatExamples
