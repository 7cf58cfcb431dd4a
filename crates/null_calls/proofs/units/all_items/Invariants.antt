use Rattle.std.proofs.Common.{[]}
use Rattle.c_syntax.specs.Tree.{more_items}
use Rattle.c_syntax.specs.UnitView.{item_at, items_of}
use Rattle.c_syntax.specs.SeenNames.{seen}
use Rattle.null_calls_expressions.specs.Sited.{sited}
use Rattle.null_calls_expressions.proofs.Turns.{GoesOn}
use Rattle.null_calls.proofs.UnitLemmas.{of_items}
use Rattle.null_calls.proofs.units.all_items.Given as goal

abbrev pub invariant-loop-k : goal.invariant-loop-k
invariant-loop-k l = GoesOn (of_items (sited l.table) (seen l.tags)) (λ x rest. more_items (item_at x.at x.kind) rest) items_of l.list l.made.items l.k (0, []) (l.next, [])
