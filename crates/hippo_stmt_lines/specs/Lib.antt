pub mod Words
pub mod Numbers
pub mod Forms
pub mod LentForms
pub mod Moments
pub mod Commands
pub mod LentCommands
pub mod CommandLaws
