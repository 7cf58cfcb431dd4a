pub mod FunctionLemmas
pub use Rattle.c_check_values.proofs.Parts
pub use Rattle.c_check_values.proofs.PartsOfTypes
