use Rattle.std.proofs.Common.{arith}
use Rattle.certify.proofs.ClaimLemmas.{none_before, one_past, rejected_by}
use Rattle.certify.proofs.LoopLemmas.{said, not_said}
use Rattle.certify.proofs.claim.is_rejected.Goals as goal

pub returns-then-not-has_after : goal.returns-then-not-has_after
returns-then-not-has_after c = none_before c.args.judge c.args.model.now c.args.trace.now c.args.at c.args.lines.now (not_said c.if-not-has_after.ensures)

pub returns-then-has_past : goal.returns-then-has_past
returns-then-has_past c = one_past c.args.judge c.args.model.now c.args.trace.now c.args.at c.args.lines.now (said c.if-has_past.ensures)

pub returns : goal.returns
returns c = rejected_by c.args.judge c.args.model.now c.args.trace.now c.args.at c.args.lines.now c.in_ok-closed.closed (omega arith) (omega arith) (said c.if-not-has_after.ensures) (not_said c.if-has_past.ensures) c.in_ok-closed.ensures
