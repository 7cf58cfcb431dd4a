use Rattle.c_syntax.specs.View.{expr_of}
use Rattle.null_calls_expressions.proofs.Turns.{all_told}
use Rattle.null_calls.proofs.declarations.value.Goals as goal

pub returns : goal.returns
returns c = all_told _ _ _ _ expr_of c.expression.result c.expression.ensures.tree c.expression.ensures.keeps c.expression.ensures.counts
