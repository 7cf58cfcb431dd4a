-- Read in this order: VariablesView (the variables that a part of a body declares), StatementTreeView and LabelledView
-- (statements and the groups of a switch, as the rules have them), AroundView (what stands round a statement), Scoped
-- (scopes in which names were declared).
-- For private contracts and proofs alone: Repeated.
pub mod AroundView
pub mod LabelledView
pub mod StatementTreeView
pub mod Repeated
pub mod Scoped
pub mod VariablesView
pub use Rattle.c_check_counts.specs.Named
pub use Rattle.c_check_counts.specs.Numbered
pub use Rattle.c_check_counts.specs.declared.numbers.Next
