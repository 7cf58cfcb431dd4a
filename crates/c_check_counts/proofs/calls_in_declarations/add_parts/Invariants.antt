use Rattle.std.proofs.Common.{◌≡◌, ◌++◌, take}
use Rattle.std.specs.Prelude.{flat_map}
use Rattle.c_syntax.specs.UnitView.{maybe_init_of}
use Rattle.c_rules.specs.PlacesOfCalls.{places_of_maybe_init}
use Rattle.c_check_counts.proofs.calls_in_declarations.add_parts.Given as goal

abbrev pub invariant-loop-part : goal.invariant-loop-part
invariant-loop-part l = l.into.items ≡ l.fn.into.items ++ flat_map (λ p. places_of_maybe_init (maybe_init_of p.init)) (take l.part-index l.parts)
