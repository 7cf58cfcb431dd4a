use Rattle.certify_facts.specs.declared.fact.Fact.{Fact}
use Rattle.certify_facts.specs.declared.fact.FactLine.{FactLine}
use Rattle.certify.specs.Closing.{IsReturnKnown}
use Rattle.certify.specs.Ends.{HasEndOf}
use Rattle.certify.proofs.LoopLemmas.{every_more_at, every_fails_at, every_holds, said, not_said}
use Rattle.certify.proofs.closed.are_links_closed.Goals as goal

pub loop-line-preserved : goal.loop-line-preserved
loop-line-preserved c = every_more_at (λ (l : FactLine). (x : Fact) → HasEndOf c.args.ends.now l.fact x → IsReturnKnown c.args.model.now c.args.last c.args.known.now.keys x l.fact) c.args.lines.now c.loop-line.line-index _ c.loop-line-test.true c.loop-line.invariant (said c.if-not-is_link_closed.ensures)

pub returns-then-not-is_link_closed : goal.returns-then-not-is_link_closed
returns-then-not-is_link_closed c = every_fails_at (λ (l : FactLine). (x : Fact) → HasEndOf c.args.ends.now l.fact x → IsReturnKnown c.args.model.now c.args.last c.args.known.now.keys x l.fact) c.args.lines.now c.loop-line.line-index _ c.loop-line-test.true (not_said c.if-not-is_link_closed.ensures)

pub returns : goal.returns
returns c = every_holds (λ (l : FactLine). (x : Fact) → HasEndOf c.args.ends.now l.fact x → IsReturnKnown c.args.model.now c.args.last c.args.known.now.keys x l.fact) c.args.lines.now c.loop-line.line-index c.loop-line-test.false c.loop-line.invariant
