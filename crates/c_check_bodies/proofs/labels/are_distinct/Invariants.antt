use Rattle.std.proofs.Common.{◌≡◌, ◌≤◌, true, drop, length}
use Rattle.c_check_bodies.specs.Repeated.{HasSeen}
use Rattle.c_rules.specs.Statements.{are_distinct}
use Rattle.c_check_bodies.proofs.labels.are_distinct.Given as goal

abbrev pub invariant-loop-left : goal.invariant-loop-left
invariant-loop-left l = record {
  few : l.left ≤ length l.labels;
  seen : HasSeen l.seen (drop l.left l.labels);
  distinct : are_distinct (drop l.left l.labels) ≡ true;
}

abbrev pub decreases-loop-left : goal.decreases-loop-left
decreases-loop-left l = l.left
