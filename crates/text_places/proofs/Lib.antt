pub mod LineLemmas
pub mod LocationLemmas
pub mod MarkerLemmas
