pub mod ComparedLemmas
pub mod FileNameLemmas
pub mod LineLemmas
pub mod Narrowing
pub mod PidLemmas
pub mod ProcessLemmas
pub mod ScheduleLemmas
