use Rattle.certify_facts.specs.declared.fact.FactLine.{FactLine}
use Rattle.certify_facts.specs.Confirms.{IsAfter}
use Rattle.certify.proofs.LoopLemmas.{none_more_at, one_holds_at, none_holds, said, not_said}
use Rattle.certify.proofs.claim.has_after.Goals as goal

pub loop-line-preserved : goal.loop-line-preserved
loop-line-preserved c = none_more_at (λ (k : FactLine). IsAfter c.args.events k.fact) c.args.lines.now c.loop-line.line-index _ c.loop-line-test.true c.loop-line.invariant (not_said c.if-is_after.ensures)

pub returns-then-is_after : goal.returns-then-is_after
returns-then-is_after c = one_holds_at (λ (k : FactLine). IsAfter c.args.events k.fact) c.args.lines.now c.loop-line.line-index _ c.loop-line-test.true (said c.if-is_after.ensures)

pub returns : goal.returns
returns c = none_holds (λ (k : FactLine). IsAfter c.args.events k.fact) c.args.lines.now c.loop-line.line-index c.loop-line-test.false c.loop-line.invariant
