pub mod LastCalls
pub mod MeasureLemmas
pub mod NextLemmas
pub mod ProcessLemmas
pub mod TrialLemmas
