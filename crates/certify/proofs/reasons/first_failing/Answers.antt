use Rattle.certify.proofs.LoopLemmas.{said}
use Rattle.certify.proofs.ReasonLemmas.{hold_more}
use Rattle.certify.proofs.reasons.first_failing.Goals as goal

pub loop-place-preserved : goal.loop-place-preserved
loop-place-preserved c = hold_more c.args.model.now c.args.trace.now c.args.lines.now c.loop-place.place c.loop-place.invariant (said c.if-not-holds_at.ensures)
