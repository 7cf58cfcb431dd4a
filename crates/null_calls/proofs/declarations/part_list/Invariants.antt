use Rattle.c_syntax.specs.UnitView.{parts_of}
use Rattle.null_calls_expressions.specs.Sited.{sited}
use Rattle.null_calls_expressions.specs.Marked.{reached, of_parts}
use Rattle.null_calls_expressions.proofs.Turns.{GoesOn}
use Rattle.null_calls.specs.Parts.{part_before}
use Rattle.null_calls.proofs.declarations.part_list.Given as goal

abbrev pub invariant-loop-k : goal.invariant-loop-k
invariant-loop-k l = GoesOn (of_parts (sited l.table)) part_before parts_of l.ps l.made.items l.k (reached l.fn.next l.fn.kept.items) (reached l.next l.kept.items)
