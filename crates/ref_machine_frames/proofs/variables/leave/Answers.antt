use Rattle.c_values.specs.Seen.{seen}
use Rattle.ref_machine_frames.proofs.Endings.{left_block, left_for}
use Rattle.ref_machine_frames.proofs.variables.leave.Goals as goal

pub returns-in-Block : goal.returns-in-Block
returns-in-Block c =
    left_block c.args.activation c.in-Block.statements c.args.of.now c.deref.result.now (seen c.args.memory.now) (seen c.end_all.new.memory) c.in-Block.is c.deref.ensures.value c.end_all.ensures

pub returns-in-For : goal.returns-in-For
returns-in-For c =
    left_for c.args.activation c.in-For.first c.in-For.test c.in-For.step c.in-For.body c.args.of.now c.deref-in-For.result.now (seen c.args.memory.now) (seen c.end_all-in-For.new.memory) c.in-For.is c.deref-in-For.ensures.value c.end_all-in-For.ensures
