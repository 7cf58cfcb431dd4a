use Rattle.std.proofs.Common.{◌≡◌, length, take}
use Rattle.report.specs.Trials.{AreFilled}
use Rattle.report.proofs.trials.arguments_of.Given as goal

abbrev pub invariant-loop-i : goal.invariant-loop-i
invariant-loop-i l = record {
  filled : AreFilled (take l.i l.kinds) (take l.i l.pattern) l.arguments;
  long : length l.arguments ≡ l.i;
}
