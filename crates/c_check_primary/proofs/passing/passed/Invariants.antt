use Rattle.std.proofs.Common.{◌≡◌, ◌+◌, ◌≤◌, map, length}
use Rattle.c_check_values.specs.TypedExpressionView.{typed_expression_of}
use Rattle.c_rules.specs.PostfixExpressions.{passed}
use Rattle.c_tree.specs.View.{types_of, exprs_of}
use Rattle.c_check_primary.proofs.passing.passed.Given as goal

abbrev pub invariant-loop-g : goal.invariant-loop-g
invariant-loop-g l = record {
  room : length l.yielded + length l.g-iterator.rest.items ≤ length l.ts;
  counted : length l.es.items ≡ length l.yielded;
  told : exprs_of l.es.items ≡ passed (types_of l.ts) (map typed_expression_of l.yielded);
}
