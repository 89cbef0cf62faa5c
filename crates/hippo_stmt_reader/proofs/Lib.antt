pub mod ConsoleTheorem
pub mod PartTheorem
pub mod StatementTheorem
pub mod AfterLemmas
