pub mod Adding
pub mod Cells
pub mod Refusals
pub mod Notices
pub mod Speakers
