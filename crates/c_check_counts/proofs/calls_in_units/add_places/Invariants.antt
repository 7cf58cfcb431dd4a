use Rattle.std.proofs.Common.{◌≡◌, ◌++◌, take}
use Rattle.std.specs.Prelude.{map}
use Rattle.c_rules.specs.CallPlaces.{called_in}
use Rattle.c_check_counts.specs.SeenCalls.{seen}
use Rattle.c_check_counts.proofs.calls_in_units.add_places.Given as goal

abbrev pub invariant-loop-at : goal.invariant-loop-at
invariant-loop-at l = seen l.into.items ≡ seen l.fn.into.items ++ map (called_in l.caller) (take l.at-index l.places)
