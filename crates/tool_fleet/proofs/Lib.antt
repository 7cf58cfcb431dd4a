pub mod FileLemmas
pub mod MemberLemmas
pub mod ReadingLemmas
pub mod ScheduleFiles
pub mod StopLemmas
