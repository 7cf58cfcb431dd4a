pub mod FunctionTypes
pub mod Outputs
pub mod Within
pub mod Answered
pub use Rattle.c_rules_laws.proofs.Texts
