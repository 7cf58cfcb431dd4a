use Rattle.std.proofs.Common.{◌≡◌, ◌++◌, drop}
use Rattle.watch.specs.Keeping.{verdicts_told}
use Rattle.watch.proofs.table.verdicts_of.Given as goal

abbrev pub invariant-loop-pid : goal.invariant-loop-pid
invariant-loop-pid g l = l.list.items ++ verdicts_told l.table (drop l.pid-index l.pids) ≡ verdicts_told l.table l.pids
