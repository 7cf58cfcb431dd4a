pub mod ObjectLemmas
pub mod ParameterLemmas
pub mod MemberLemmas
pub use Rattle.c_check_values.proofs.Parts
