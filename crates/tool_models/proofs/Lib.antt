pub mod FileLemmas
pub mod FollowingLemmas
pub mod FoundLemmas
pub mod JudgedFiles
mod MeasureLemmas
pub mod OwnEvents
mod UpgradeLemmas
