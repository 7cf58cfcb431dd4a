-- Read in this order: OutputView (what items define, as the rules have it), Made (the program that is made of what is
-- known and of what items define), Scoped (scopes inside others).
-- For private contracts and proofs alone: Chars, Forms.
pub mod Chars
pub mod Forms
pub mod Made
pub mod OutputView
pub mod Scoped
pub use Rattle.c_check_counts.specs.Numbered
pub use Rattle.c_check_values.specs.Agreement
pub use Rattle.c_check_values.specs.TypedExpressionView
pub use Rattle.c_check_values.specs.declared.error.CheckError
pub use Rattle.c_check_values.specs.declared.typed_expression.TypedExpression
pub use Rattle.c_check_counts.specs.declared.numbers.Next
