use Rattle.std.proofs.Common.{◌≡◌, map}
use Rattle.c_check_values.specs.TypedExpressionView.{typed_expression_of}
use Rattle.c_rules.specs.Assignments.{last_type, trees_of}
use Rattle.c_tree.specs.Tree.{void}
use Rattle.c_tree.specs.View.{ctype_of, exprs_of}
use Rattle.c_check_assignments.proofs.comma.gather.Given as goal

abbrev pub invariant-loop-g : goal.invariant-loop-g
invariant-loop-g l =
    (ctype_of l.last ≡ last_type void (map typed_expression_of l.yielded)) × (exprs_of l.trees.items ≡ trees_of (map typed_expression_of l.yielded))
