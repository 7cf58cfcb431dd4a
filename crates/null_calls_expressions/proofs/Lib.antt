pub mod ExprLemmas
pub mod MarkedLemmas
pub mod OperandLemmas
pub mod Turns
pub mod WantedLemmas
pub use Rattle.null_calls_temporaries.proofs.KeptLemmas
pub use Rattle.c_check_counts.proofs.Lists
pub use Rattle.null_calls_temporaries.proofs.CopyLemmas
