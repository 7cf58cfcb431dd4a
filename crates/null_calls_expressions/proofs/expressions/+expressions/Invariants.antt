use Rattle.c_syntax.specs.Tree.{more_exprs}
use Rattle.c_syntax.specs.View.{expr_of}
use Rattle.c_syntax.specs.Writes.{exprs_of}
use Rattle.null_calls_temporaries.specs.Sited.{sited}
use Rattle.null_calls_expressions.specs.Marked.{reached, of_arguments, of_members}
use Rattle.null_calls_expressions.proofs.Turns.{GoesOn}
use Rattle.null_calls_expressions.proofs.expressions.+expressions.Given as goal

abbrev pub invariant-arguments-loop-i : goal.invariant-arguments-loop-i
invariant-arguments-loop-i l = GoesOn (of_arguments (sited l.table)) (λ x rest. more_exprs (expr_of x) rest) exprs_of l.es l.made.items l.i (reached l.fn.next l.fn.kept.items) (reached l.next l.kept.items)

abbrev pub invariant-members-loop-i : goal.invariant-members-loop-i
invariant-members-loop-i l = GoesOn (of_members (sited l.table) l.wanted) (λ x rest. more_exprs (expr_of x) rest) exprs_of l.es l.made.items l.i (reached l.fn.next l.fn.kept.items) (reached l.next l.kept.items)
