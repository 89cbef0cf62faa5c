pub mod Records
pub mod Loading
pub mod Extracting
pub mod RecordLaws
