use Rattle.certify.proofs.ClaimLemmas.{no_start, no_links, closed_by}
use Rattle.certify.proofs.LoopLemmas.{said, not_said}
use Rattle.certify.proofs.closed.is_closed.Goals as goal

pub returns-then-not-is_start_known : goal.returns-then-not-is_start_known
returns-then-not-is_start_known c = no_start c.args.judge c.args.model.now c.args.trace.now c.args.last c.args.lines.now c.in_ok-known.known.keys c.in_ok-known.ensures (not_said c.if-not-is_start_known.ensures)

pub returns-then-not-are_links_closed : goal.returns-then-not-are_links_closed
returns-then-not-are_links_closed c = no_links c.args.judge c.args.model.now c.args.trace.now c.args.last c.args.lines.now c.in_ok-known.known.keys c.in_ok-known.ensures c.in_ok-ends.ends c.in_ok-ends.ensures (not_said c.if-not-are_links_closed.ensures)

pub returns : goal.returns
returns c = closed_by c.args.judge c.args.model.now c.args.trace.now c.args.last c.args.lines.now c.in_ok-known.known.keys c.in_ok-known.ensures c.in_ok-ends.ends c.in_ok-ends.ensures c.in_ok-followed.followed (said c.if-not-is_start_known.ensures) (said c.if-not-are_links_closed.ensures) c.in_ok-followed.ensures
