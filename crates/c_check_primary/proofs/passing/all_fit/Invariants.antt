use Rattle.std.proofs.Common.{◌≡◌, drop, map}
use Rattle.c_check_values.specs.TypedExpressionView.{typed_expression_of}
use Rattle.c_rules.specs.PostfixExpressions.{all_fit}
use Rattle.c_tree.specs.View.{types_of}
use Rattle.c_check_primary.proofs.passing.all_fit.Given as goal

abbrev pub invariant-loop-i : goal.invariant-loop-i
invariant-loop-i l = all_fit (types_of (drop l.i l.ts)) (map typed_expression_of (drop l.i l.gs)) ≡ all_fit (types_of l.ts) (map typed_expression_of l.gs)
