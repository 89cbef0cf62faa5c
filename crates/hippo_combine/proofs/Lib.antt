mod HeldLemmas
pub mod UnreadLemmas
mod BringingLemmas
pub mod ExaminerLemmas
mod SharingLemmas
mod ExaminingLemmas
