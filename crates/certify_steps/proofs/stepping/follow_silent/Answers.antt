use Rattle.std.proofs.Common.{[], sym}
use Rattle.certify_steps.proofs.AddingLemmas.{adds_same, adds_nothing}
use Rattle.certify_steps.proofs.FollowLemmas.{silent_lines, no_silent}
use Rattle.certify_steps.proofs.stepping.follow_silent.Goals as goal

pub returns-in_ok-follow_each_silent : goal.returns-in_ok-follow_each_silent
returns-in_ok-follow_each_silent c = adds_same c.args.found.now.items c.follow_each_silent.new.found.items _ _ (λ l. silent_lines c.args.model.now [] c.args.number c.args.fact c.in-Some.node c.silent_from.result.now l (sym c.in-Some.ensures) c.silent_from.ensures) c.in_ok-follow_each_silent.ensures

pub returns-in_default : goal.returns-in_default
returns-in_default c = adds_nothing c.args.found.now.items _ (λ l (reason, is). no_silent c.args.model.now [] c.args.number c.args.fact l.fact (sym c.in_default.ensures) is)
