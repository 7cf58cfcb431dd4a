use Rattle.c_tree.proofs.SameBelow.{SameBelow}
use Rattle.c_tree.proofs.same.+same.Given as goal

abbrev pub invariant-are_same-loop-i : goal.invariant-are_same-loop-i
invariant-are_same-loop-i l = SameBelow l.ts l.us l.i
