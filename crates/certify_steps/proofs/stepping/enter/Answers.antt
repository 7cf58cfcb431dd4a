use Rattle.std.proofs.Common.{◌≡◌, subst}
use Rattle.certify_facts.specs.declared.fact.Reason.TheVariants.{Enter}
use Rattle.certify_steps.specs.Adding.{Adds}
use Rattle.certify_steps.specs.Stepping.{line_of}
use Rattle.certify_steps.proofs.FollowLemmas.{entry_added, item_at, no_entry}
use Rattle.certify_steps.proofs.stepping.enter.Goals as goal

pub returns-in_ok-add : goal.returns-in_ok-add
returns-in_ok-add c = entry_added c.args.found.now.items c.add.new.found.items c.args.functions.now c.args.fact c.args.number c.args.site c.args.function c.in-Some.one.now
    (item_at c.args.functions.now c.args.function c.in-Some.one.now c.in-Some.ensures.lookup.0 c.in-Some.ensures.lookup.1)
    (subst (λ x. Adds c.args.found.now.items c.add.new.found.items (λ l. l ≡ line_of x (Enter c.args.number c.args.site))) c.entered_at.ensures c.in_ok-add.ensures)

pub returns-in_default : goal.returns-in_default
returns-in_default c = no_entry c.args.found.now.items c.args.functions.now c.args.fact c.args.number c.args.site c.args.function c.in_default.ensures.lookup.0
