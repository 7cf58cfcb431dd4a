pub mod SeenLemmas
pub mod StoreLemmas
pub mod WordLemmas
