use Rattle.std.proofs.Common.{◌≡◌, ◌++◌, take}
use Rattle.c_check_bodies.proofs.switches.labels_of_both.Given as goal

abbrev pub invariant-loop-label : goal.invariant-loop-label
invariant-loop-label l = l.all.items ≡ l.fn.first.items ++ take l.label-index l.second
