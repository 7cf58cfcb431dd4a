use Rattle.std.proofs.Common.{take}
use Rattle.certify_making.specs.Ahead.{IsDeepest}
use Rattle.certify_making.proofs.deepest.deepest.Given as goal

abbrev pub invariant-loop-line : goal.invariant-loop-line
invariant-loop-line l = IsDeepest (take l.line-index l.lines) l.events
