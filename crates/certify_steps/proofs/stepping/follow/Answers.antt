use Rattle.std.proofs.Common.{refl}
use Rattle.certify_steps.proofs.AddingLemmas.{adds_same, adds_then}
use Rattle.certify_steps.proofs.FollowLemmas.{any_is}
use Rattle.certify_steps.proofs.stepping.follow.Goals as goal

pub returns : goal.returns
returns c =
    let one = adds_then c.args.found.now.items c.follow_silent.new.found.items c.follow_calls.new.found.items _ _ c.in_ok-follow_silent.ensures c.in_ok-follow_calls.ensures in
    let two = adds_then c.follow_calls.new.found.items c.follow_returns.new.found.items c.follow_event.new.found.items _ _ c.in_ok-follow_returns.ensures c.in_ok-follow_event.ensures in
    adds_same c.args.found.now.items c.follow_event.new.found.items _ _ (λ l. any_is c.args.model.now c.args.trace.now c.args.number c.args.last c.args.fact l (c.if-not-is_within.ensures.0 refl))
    (adds_then c.args.found.now.items c.follow_calls.new.found.items c.follow_event.new.found.items _ _ one two)
