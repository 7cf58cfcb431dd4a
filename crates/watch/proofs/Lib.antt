pub mod KeyLemmas
pub mod MarkLemmas
pub mod NothingKept
pub mod OwnLemmas
pub mod PastLemmas
pub mod StepLemmas
pub mod WatchLemmas
