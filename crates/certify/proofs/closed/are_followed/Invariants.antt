use Rattle.std.proofs.Common.{take, Contains}
use Rattle.certify_facts.specs.declared.fact.FactLine.{FactLine}
use Rattle.certify.specs.Closing.{IsFollowed}
use Rattle.certify.proofs.closed.are_followed.Given as goal

abbrev pub invariant-loop-line : goal.invariant-loop-line
invariant-loop-line l = (k : FactLine) → Contains (take l.line-index l.lines) k → IsFollowed l.model l.trace l.last l.known.keys k.fact
