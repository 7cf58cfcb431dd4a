use Rattle.certify_facts.specs.declared.fact.Judge.{Judge}
use Rattle.certify_making.specs.Adding.{IsKept}
use Rattle.certify_making.specs.Ahead.{IsAhead, IsBegun}
use Rattle.certify_making.proofs.saturating.saturate.Given as goal

abbrev pub invariant-loop-place : goal.invariant-loop-place
invariant-loop-place l = IsKept l.facts × ((judge : Judge) → IsBegun judge l.model l.fn.facts.lines.items → IsAhead judge l.model l.trace l.place l.facts.lines.items l.notes)
