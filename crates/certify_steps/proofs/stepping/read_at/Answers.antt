use Rattle.certify_steps.proofs.AddingLemmas.{adds_same, adds_nothing}
use Rattle.certify_steps.proofs.FollowLemmas.{read_at, no_read_at, item_at, item_past}
use Rattle.certify_steps.proofs.stepping.read_at.Goals as goal

pub returns-in_ok-read_from : goal.returns-in_ok-read_from
returns-in_ok-read_from c = adds_same c.args.found.now.items c.read_from.new.found.items _ _
    (λ l. read_at c.args.model.now c.args.trace.now c.args.number c.args.next c.args.k c.args.node c.in-Some.event.now l (item_at c.args.trace.now c.args.k c.in-Some.event.now c.in-Some.ensures.lookup.0 c.in-Some.ensures.lookup.1)) c.in_ok-read_from.ensures

pub returns-in_default : goal.returns-in_default
returns-in_default c = adds_nothing c.args.found.now.items _ (λ l. no_read_at c.args.model.now c.args.trace.now c.args.number c.args.next c.args.k c.args.node l (item_past c.args.trace.now c.args.k c.in_default.ensures.lookup.0))
