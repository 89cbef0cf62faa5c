pub mod AsciiLemmas
pub mod CondLemmas
pub mod OptionLemmas
pub mod KeywordLemmas
mod LetterLemmas
pub mod NamesLemmas
