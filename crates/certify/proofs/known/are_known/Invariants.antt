use Rattle.std.proofs.Common.{take, Contains}
use Rattle.certify_facts.specs.declared.fact.FactLine.{FactLine}
use Rattle.certify.proofs.known.are_known.Given as goal

abbrev pub invariant-loop-line : goal.invariant-loop-line
invariant-loop-line l = (k : FactLine) → Contains (take l.line-index l.lines) k → Contains l.known.keys k.fact
