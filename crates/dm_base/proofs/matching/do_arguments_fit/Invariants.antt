use Rattle.std.proofs.Common.{drop}
use Rattle.dm_base.specs.Fits.{FitArguments}
use Rattle.dm_base.proofs.matching.do_arguments_fit.Given as goal

abbrev pub invariant-loop-i : goal.invariant-loop-i
invariant-loop-i l = record {
  enough : FitArguments (drop l.i l.pattern) (drop l.i l.arguments) → FitArguments l.pattern l.arguments;
  needed : FitArguments l.pattern l.arguments → FitArguments (drop l.i l.pattern) (drop l.i l.arguments);
}
