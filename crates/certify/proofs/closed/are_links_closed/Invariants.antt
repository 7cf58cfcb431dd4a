use Rattle.std.proofs.Common.{take, Contains}
use Rattle.certify_facts.specs.declared.fact.Fact.{Fact}
use Rattle.certify_facts.specs.declared.fact.FactLine.{FactLine}
use Rattle.certify.specs.Closing.{IsReturnKnown}
use Rattle.certify.specs.Ends.{HasEndOf}
use Rattle.certify.proofs.closed.are_links_closed.Given as goal

abbrev pub invariant-loop-line : goal.invariant-loop-line
invariant-loop-line l = (k : FactLine) → Contains (take l.line-index l.lines) k → (x : Fact) → HasEndOf l.ends k.fact x → IsReturnKnown l.model l.last l.known.keys x k.fact
