pub mod ReadingLaws
pub mod Written
pub mod FollowingLaws
pub mod WrittenLaws
pub mod QuestionLaws
pub mod CommandLaws
