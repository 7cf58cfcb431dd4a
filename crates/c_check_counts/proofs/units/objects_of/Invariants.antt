use Rattle.std.proofs.Common.{◌≡◌, take}
use Rattle.std.specs.Prelude.{flat_map}
use Rattle.c_check_scopes.specs.Units.{objects_of_item}
use Rattle.c_syntax.specs.UnitView.{item_at}
use Rattle.c_syntax.specs.SeenNames.{seen}
use Rattle.c_check_counts.proofs.units.objects_of.Given as goal

abbrev pub invariant-loop-item : goal.invariant-loop-item
invariant-loop-item l = seen l.names.items ≡ flat_map (λ i. objects_of_item (item_at i.at i.kind)) (take l.item-index l.items)
