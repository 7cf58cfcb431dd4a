use Rattle.std.proofs.Common.{arith}
use Rattle.ref_machine_frames.proofs.CellLemmas.{type_step, types_done}
use Rattle.ref_machine_frames.proofs.cells.cells_of_all.Goals as goal

pub loop-t-preserved : goal.loop-t-preserved
loop-t-preserved c = record {
  small = omega (arith, c.added-sum.ensures);
  counted = λ types h. type_step types c.args.types.now c.loop-t.t-index c.t-item.result _ c.loop-t.sum c.cells_with-count.result c.added-sum.result c.loop-t-test.true c.t-item.is (c.loop-t.invariant.counted types h) (c.cells_with-count.ensures types h) c.added-sum.ensures;
}

pub returns : goal.returns
returns c types h = types_done types c.args.types.now c.loop-t.t-index _ c.loop-t.sum c.loop-t-test.false c.loop-t.invariant.small (c.loop-t.invariant.counted types h)
