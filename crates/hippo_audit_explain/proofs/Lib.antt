mod ListingLemmas
mod VersionCounts
mod QuestionLemmas
mod DenyingLemmas
mod TextLemmas
