use Rattle.std.proofs.Common.{Contains}
use Rattle.certify_facts.specs.declared.fact.FactLine.{FactLine}
use Rattle.certify.proofs.LoopLemmas.{every_more_at, every_fails_at, every_holds, said, not_said}
use Rattle.certify.proofs.known.are_known.Goals as goal

pub loop-line-preserved : goal.loop-line-preserved
loop-line-preserved c = every_more_at (λ (l : FactLine). Contains c.args.known.now.keys l.fact) c.args.lines.now c.loop-line.line-index _ c.loop-line-test.true c.loop-line.invariant (said c.if-not-has_fact.ensures)

pub returns-then-not-has_fact : goal.returns-then-not-has_fact
returns-then-not-has_fact c = every_fails_at (λ (l : FactLine). Contains c.args.known.now.keys l.fact) c.args.lines.now c.loop-line.line-index _ c.loop-line-test.true (not_said c.if-not-has_fact.ensures)

pub returns : goal.returns
returns c = every_holds (λ (l : FactLine). Contains c.args.known.now.keys l.fact) c.args.lines.now c.loop-line.line-index c.loop-line-test.false c.loop-line.invariant
