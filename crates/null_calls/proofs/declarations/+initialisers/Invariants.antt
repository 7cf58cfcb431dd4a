use Rattle.c_syntax.specs.Tree.{more_inits}
use Rattle.c_syntax.specs.UnitView.{init_of}
use Rattle.c_syntax.specs.WritesUnit.{inits_of}
use Rattle.null_calls_expressions.specs.Sited.{sited}
use Rattle.null_calls_expressions.specs.Marked.{reached, of_inits}
use Rattle.null_calls_expressions.proofs.Turns.{GoesOn}
use Rattle.null_calls.proofs.declarations.+initialisers.Given as goal

abbrev pub invariant-init_list-loop-k : goal.invariant-init_list-loop-k
invariant-init_list-loop-k l = GoesOn (of_inits (sited l.table)) (λ x rest. more_inits (init_of x) rest) inits_of l.list l.made.items l.k (reached l.fn.next l.fn.kept.items) (reached l.next l.kept.items)
