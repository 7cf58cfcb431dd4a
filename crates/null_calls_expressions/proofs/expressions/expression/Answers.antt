use Rattle.c_syntax.specs.View.{expr_of}
use Rattle.null_calls_expressions.proofs.Turns.{told_apart}
use Rattle.null_calls_expressions.proofs.expressions.expression.Goals as goal

pub returns : goal.returns
returns c = let told = told_apart _ _ _ _ expr_of c.instrumented.result c.instrumented.ensures in record { tree = told.0; keeps = told.1; counts = told.2 }
