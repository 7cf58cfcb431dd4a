pub mod LabelLemmas
pub mod LaidLemmas
pub mod ScopeLemmas
pub use Rattle.c_check_counts.proofs.NextLemmas
