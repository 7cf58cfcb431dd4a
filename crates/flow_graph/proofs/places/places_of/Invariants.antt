use Rattle.std.proofs.Common.{◌≡◌, map, take}
use Rattle.flow_graph.specs.Places.{place_at}
use Rattle.flow_graph.proofs.places.places_of.Given as goal

abbrev pub invariant-loop-f : goal.invariant-loop-f
invariant-loop-f l = l.places.items ≡ map (place_at l.defined l.taken) (take l.f-index l.functions)
