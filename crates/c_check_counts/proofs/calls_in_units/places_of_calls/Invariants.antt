use Rattle.std.proofs.Common.{◌≡◌, take}
use Rattle.std.specs.Prelude.{flat_map}
use Rattle.c_syntax.specs.UnitView.{item_at}
use Rattle.c_rules.specs.CallPlaces.{call_places_of_item}
use Rattle.c_check_counts.specs.SeenCalls.{seen}
use Rattle.c_check_counts.proofs.calls_in_units.places_of_calls.Given as goal

abbrev pub invariant-loop-item : goal.invariant-loop-item
invariant-loop-item l = seen l.found.items ≡ flat_map (λ i. call_places_of_item (item_at i.at i.kind)) (take l.item-index l.items)
