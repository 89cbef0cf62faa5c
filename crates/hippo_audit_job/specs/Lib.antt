pub mod Naming
pub mod Examining
pub mod Looking
pub mod Flagging
pub mod Jobs
pub mod JobLaws
