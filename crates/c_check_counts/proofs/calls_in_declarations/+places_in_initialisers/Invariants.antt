use Rattle.std.proofs.Common.{◌≡◌, ◌++◌, take}
use Rattle.std.specs.Prelude.{flat_map}
use Rattle.c_syntax.specs.UnitView.{init_of}
use Rattle.c_rules.specs.PlacesOfCalls.{places_of_init}
use Rattle.c_check_counts.proofs.calls_in_declarations.+places_in_initialisers.Given as goal

abbrev pub invariant-add_initialisers-loop-init : goal.invariant-add_initialisers-loop-init
invariant-add_initialisers-loop-init l = l.into.items ≡ l.fn.into.items ++ flat_map (λ i. places_of_init (init_of i)) (take l.init-index l.all)
