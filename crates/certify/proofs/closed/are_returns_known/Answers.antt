use Rattle.certify_facts.specs.declared.fact.Fact.{Fact}
use Rattle.certify.specs.Closing.{IsReturnKnown}
use Rattle.certify.proofs.LoopLemmas.{every_more_at, every_fails_at, every_holds, said, not_said}
use Rattle.certify.proofs.closed.are_returns_known.Goals as goal

pub loop-x-preserved : goal.loop-x-preserved
loop-x-preserved c = every_more_at (λ (x : Fact). IsReturnKnown c.args.model.now c.args.last c.args.known.now.keys x c.args.z) c.args.ends.now c.loop-x.x-index _ c.loop-x-test.true c.loop-x.invariant (said c.if-not-is_return_known.ensures)

pub returns-then-not-is_return_known : goal.returns-then-not-is_return_known
returns-then-not-is_return_known c = every_fails_at (λ (x : Fact). IsReturnKnown c.args.model.now c.args.last c.args.known.now.keys x c.args.z) c.args.ends.now c.loop-x.x-index _ c.loop-x-test.true (not_said c.if-not-is_return_known.ensures)

pub returns : goal.returns
returns c = every_holds (λ (x : Fact). IsReturnKnown c.args.model.now c.args.last c.args.known.now.keys x c.args.z) c.args.ends.now c.loop-x.x-index c.loop-x-test.false c.loop-x.invariant
