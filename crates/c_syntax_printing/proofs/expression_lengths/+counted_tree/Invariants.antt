use Rattle.std.proofs.Common.{drop}
use Rattle.c_syntax.specs.Print.{list_kinds}
use Rattle.c_syntax_printing.specs.Counted.{Leaves}
use Rattle.c_syntax.specs.Writes.{exprs_of, params_of, left_kinds, left_params, head_params}
use Rattle.c_syntax_printing.proofs.expression_lengths.+counted_tree.Given as goal

abbrev pub invariant-count_list-loop-e : goal.invariant-count_list-loop-e
invariant-count_list-loop-e l =
    Leaves l.fn.total (list_kinds (exprs_of l.es)) l.total (left_kinds l.first (exprs_of (drop l.e-index l.es)))

abbrev pub invariant-count_params-loop-param : goal.invariant-count_params-loop-param
invariant-count_params-loop-param l =
    Leaves l.fn.total (head_params (params_of l.params)) l.total (left_params l.first (params_of (drop l.param-index l.params)))
