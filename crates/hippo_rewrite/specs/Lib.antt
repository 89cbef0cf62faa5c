pub mod Rewriting
pub mod MaskedRows
pub mod RewritingLaws
