use Rattle.std.proofs.Common.{take, Contains}
use Rattle.certify_facts.specs.declared.fact.Fact.{Fact}
use Rattle.certify.specs.Closing.{IsReturnKnown}
use Rattle.certify.proofs.closed.are_returns_known.Given as goal

abbrev pub invariant-loop-x : goal.invariant-loop-x
invariant-loop-x l = (x : Fact) → Contains (take l.x-index l.ends) x → IsReturnKnown l.model l.last l.known.keys x l.z
