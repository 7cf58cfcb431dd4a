pub mod AddingLemmas
pub mod CheckLemmas
pub mod FollowLemmas
pub mod ReadingLemmas
