use Rattle.certify_facts.specs.declared.fact.FactLine.{FactLine}
use Rattle.certify.specs.Closing.{GoesPast}
use Rattle.certify.proofs.LoopLemmas.{none_more_at, one_holds_at, none_holds, said, not_said}
use Rattle.certify.proofs.claim.has_past.Goals as goal

pub loop-line-preserved : goal.loop-line-preserved
loop-line-preserved c = none_more_at (λ (k : FactLine). GoesPast c.args.model.now c.args.trace.now c.args.last k.fact) c.args.lines.now c.loop-line.line-index _ c.loop-line-test.true c.loop-line.invariant (not_said c.if-goes_past.ensures)

pub returns-then-goes_past : goal.returns-then-goes_past
returns-then-goes_past c = one_holds_at (λ (k : FactLine). GoesPast c.args.model.now c.args.trace.now c.args.last k.fact) c.args.lines.now c.loop-line.line-index _ c.loop-line-test.true (said c.if-goes_past.ensures)

pub returns : goal.returns
returns c = none_holds (λ (k : FactLine). GoesPast c.args.model.now c.args.trace.now c.args.last k.fact) c.args.lines.now c.loop-line.line-index c.loop-line-test.false c.loop-line.invariant
