pub mod CellView
pub mod Left
pub mod SlotsLeft
pub use Rattle.c_check_values.specs.Agreement
pub use Rattle.c_check_values.specs.TypedExpressionView
pub use Rattle.c_check_values.specs.declared.error.CheckError
pub use Rattle.c_check_values.specs.declared.typed_expression.TypedExpression
