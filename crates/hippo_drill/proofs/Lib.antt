mod PlaceLemmas
mod ScriptExamples
mod CountingExamples
