use Rattle.std.proofs.Common.{drop}
use Rattle.c_syntax.specs.Print.{list_kinds}
use Rattle.c_syntax.specs.Writes.{Leaves, exprs_of, params_of, left_kinds, left_params, head_params}
use Rattle.c_syntax_printing.proofs.printing.expressions.+printed_tree.Given as goal

abbrev pub invariant-write_list-loop-e : goal.invariant-write_list-loop-e
invariant-write_list-loop-e l =
    Leaves l.fn.out.items (list_kinds (exprs_of l.es)) l.out.items (left_kinds l.first (exprs_of (drop l.e-index l.es)))

abbrev pub invariant-write_params-loop-param : goal.invariant-write_params-loop-param
invariant-write_params-loop-param l =
    Leaves l.fn.out.items (head_params (params_of l.params)) l.out.items (left_params l.first (params_of (drop l.param-index l.params)))
