use Rattle.std.proofs.Common.{◌≡◌, ◌++◌, take}
use Rattle.std.specs.Prelude.{flat_map}
use Rattle.c_syntax.specs.View.{expr_of}
use Rattle.c_rules.specs.PlacesOfCalls.{places}
use Rattle.c_check_counts.proofs.calls_in_expressions.+places_in_trees.Given as goal

abbrev pub invariant-add_expressions-loop-e : goal.invariant-add_expressions-loop-e
invariant-add_expressions-loop-e l = l.into.items ≡ l.fn.into.items ++ flat_map (λ e. places (expr_of e)) (take l.e-index l.es)
