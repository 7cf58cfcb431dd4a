use Rattle.c_syntax.specs.UnitView.{storage_of, parts_of}
use Rattle.c_check_scopes.specs.Units.{objects_of_parts}
use Rattle.c_check_counts.specs.Named.{objects_of_part}
use Rattle.c_syntax.specs.SeenNames.{seen}
use Rattle.c_check_counts.proofs.Lists.{objects_of_parts_flat, more_flat, all_flat}
use Rattle.c_check_counts.proofs.units.add_objects.Goals as goal

pub returns : goal.returns
returns c =
    all_flat (objects_of_part (storage_of c.args.storage)) c.args.parts.now c.loop-part.part-index (seen c.args.into.now.items) (seen c.loop-part.into.items) (objects_of_parts (storage_of c.args.storage) (parts_of c.args.parts.now)) c.loop-part-test.false (objects_of_parts_flat (storage_of c.args.storage) c.args.parts.now) c.loop-part.invariant

pub loop-part-preserved : goal.loop-part-preserved
loop-part-preserved c =
    more_flat (objects_of_part (storage_of c.args.storage)) c.args.parts.now c.loop-part.part-index c.part-item.result (seen c.args.into.now.items) (seen c.loop-part.into.items) (seen c.add_object.new.into.items) c.loop-part-test.true c.part-item.is c.loop-part.invariant c.in_ok-add_object.ensures
