pub mod Calls
pub mod ReadingAhead
pub mod Taking
pub mod Backlogs
pub mod BacklogLaws
