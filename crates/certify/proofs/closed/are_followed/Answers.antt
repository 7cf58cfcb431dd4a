use Rattle.certify_facts.specs.declared.fact.FactLine.{FactLine}
use Rattle.certify.specs.Closing.{IsFollowed}
use Rattle.certify.proofs.LoopLemmas.{every_more_at, every_fails_at, every_holds, yes_by, no_by}
use Rattle.certify.proofs.closed.are_followed.Goals as goal

pub loop-line-preserved : goal.loop-line-preserved
loop-line-preserved c = every_more_at (λ (l : FactLine). IsFollowed c.args.model.now c.args.trace.now c.args.last c.args.known.now.keys l.fact) c.args.lines.now c.loop-line.line-index _ c.loop-line-test.true c.loop-line.invariant (yes_by c.in_ok-followed.followed c.if-not-followed.false c.in_ok-followed.ensures)

pub returns-then-not-followed : goal.returns-then-not-followed
returns-then-not-followed c = every_fails_at (λ (l : FactLine). IsFollowed c.args.model.now c.args.trace.now c.args.last c.args.known.now.keys l.fact) c.args.lines.now c.loop-line.line-index _ c.loop-line-test.true (no_by c.in_ok-followed.followed c.if-not-followed.true c.in_ok-followed.ensures)

pub returns : goal.returns
returns c = every_holds (λ (l : FactLine). IsFollowed c.args.model.now c.args.trace.now c.args.last c.args.known.now.keys l.fact) c.args.lines.now c.loop-line.line-index c.loop-line-test.false c.loop-line.invariant
