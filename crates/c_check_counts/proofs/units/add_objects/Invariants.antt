use Rattle.std.proofs.Common.{◌≡◌, ◌++◌, take}
use Rattle.std.specs.Prelude.{flat_map}
use Rattle.c_check_counts.specs.Named.{objects_of_part}
use Rattle.c_syntax.specs.UnitView.{storage_of}
use Rattle.c_syntax.specs.SeenNames.{seen}
use Rattle.c_check_counts.proofs.units.add_objects.Given as goal

abbrev pub invariant-loop-part : goal.invariant-loop-part
invariant-loop-part l = seen l.into.items ≡ seen l.fn.into.items ++ flat_map (objects_of_part (storage_of l.storage)) (take l.part-index l.parts)
