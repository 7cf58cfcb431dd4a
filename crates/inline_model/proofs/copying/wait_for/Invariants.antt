use Rattle.std.proofs.Common.{◌≡◌, ◌≤◌, ◌++◌, length, map, drop}
use Rattle.inline_model.specs.Copying.{waiting_of}
use Rattle.inline_model.proofs.copying.wait_for.Given as goal

abbrev pub invariant-loop-i : goal.invariant-loop-i
invariant-loop-i l = record {
  within : l.i ≤ length l.own;
  held : l.stack ≡ map (waiting_of l.parent) (drop l.i l.own) ++ l.fn.stack;
}

abbrev pub decreases-loop-i : goal.decreases-loop-i
decreases-loop-i l = l.i
