pub mod Names
pub mod Pairs
pub mod ResultsLemmas
pub mod ResultsLineLemmas
