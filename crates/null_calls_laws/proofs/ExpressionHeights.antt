-- How deep the nodes of expressions with null calls round their marked calls stand in each other.
use Rattle.null_calls_laws.specs.Heights.{ExpressionsStayLow}
pub use Rattle.null_calls_laws.proofs.ExpressionCounts.{by_unary, Operand, by_type}
use Rattle.null_calls_laws.proofs.ExpressionCounts.{expr_alike}

pub expressions_low : ExpressionsStayLow
expressions_low sites b wanted x h = (expr_alike sites x b wanted h).low
