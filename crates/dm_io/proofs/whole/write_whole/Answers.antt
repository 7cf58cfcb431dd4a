use Rattle.std.proofs.Common.{arith, length-drop}
use Rattle.dm_io.proofs.Taken.{Takes-part}
use Rattle.dm_io.proofs.whole.write_whole.Goals as goal

pub loop-done-preserved : goal.loop-done-preserved
loop-done-preserved g c = record {
  within = omega (arith, length-drop c.loop-done.done c.args.text.now, c.in_ok-count.ensures.within);
  taken = Takes-part _ _ _ c.args.text.now c.loop-done.done c.in_ok-count.count c.loop-done.invariant.taken c.in_ok-count.ensures.taken;
  faults = omega (arith, c.write.ensures.never_falls, c.loop-done.invariant.faults);
}
