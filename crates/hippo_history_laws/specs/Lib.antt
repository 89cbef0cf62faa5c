pub mod TellingLaws
pub mod ScriptLaws
