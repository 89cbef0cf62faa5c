pub mod TextParts
pub mod FitWords
pub mod SelectFronts
pub mod QuestionTheorem
mod QuestionExamples
pub mod RefusalLemmas
pub mod HistoryLemmas
pub mod PlaceLemmas
pub mod FitActs
pub mod NameActs
pub mod RuleActs
pub mod RowActs
pub mod CreateAct
pub mod FollowingTheorem
mod FollowingExamples
pub mod WrittenTheorem
pub mod AskedTheorem
pub mod FoldedNames
pub mod TokenTheorem
pub mod CommandTheorem
