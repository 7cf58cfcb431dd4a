use Rattle.std.proofs.Common.{◌≡◌, length}
use Rattle.c_syntax.specs.Tree.{Exprs}
use Rattle.c_syntax.specs.Writes.{exprs_of}
use Rattle.null_calls_temporaries.specs.InstrumentedExpressions as marks
use Rattle.null_calls_expressions.specs.Lists.{exprs_onto}
use Rattle.null_calls_expressions.proofs.marked.add_arguments.Given as goal

abbrev pub invariant-loop-one : goal.invariant-loop-one
invariant-loop-one l = record {
  counted : l.one-iterator.rest.len ≡ length l.one-iterator.rest.items;
  keeps : (rest : Exprs) → exprs_onto l.list.items (marks.keep_arguments l.at l.site (length l.passed.items) (exprs_of l.one-iterator.rest.items) rest) ≡ exprs_onto l.fn.list.items (marks.keep_arguments l.at l.site 0 (exprs_of l.fn.arguments.items) rest);
  gives : exprs_onto l.passed.items (marks.kept_arguments l.at l.site (length l.passed.items) (exprs_of l.one-iterator.rest.items)) ≡ marks.kept_arguments l.at l.site 0 (exprs_of l.fn.arguments.items);
}
