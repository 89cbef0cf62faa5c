pub mod Examining
pub mod Seen
pub mod SharedLaws
pub mod AloneRows
pub mod GroupMarks
