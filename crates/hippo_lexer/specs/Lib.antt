pub mod Spelling
pub mod Words
pub mod Cutting
pub mod Grammar
