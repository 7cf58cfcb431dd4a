use Rattle.std.proofs.Common.{sym, subst}
use Rattle.certify_steps.specs.Adding.{Adds}
use Rattle.certify_steps.specs.Stepping.{Gives}
use Rattle.certify.proofs.ClaimLemmas.{followed_by}
use Rattle.certify.proofs.closed.is_followed.Goals as goal

pub returns : goal.returns
returns c = followed_by c.args.model.now c.args.trace.now c.args.last 0 c.args.known.now.keys c.args.fact c.new-found.result.items c.deref.result.now c.are_known.result c.new-found.ensures.items
    (subst (λ ls. Adds c.new-found.result.items ls (Gives c.args.model.now c.args.trace.now c.args.last 0 c.args.fact)) (sym c.deref.ensures.value) c.in_ok-follow.ensures) c.are_known.ensures
