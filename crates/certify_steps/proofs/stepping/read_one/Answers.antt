use Rattle.std.proofs.Common.{◌≡◌, refl, subst}
use Rattle.certify_facts.specs.declared.fact.Reason.TheVariants.{Event}
use Rattle.certify_steps.specs.Adding.{Adds}
use Rattle.certify_steps.specs.Stepping.{moved, line_of}
use Rattle.dm_base.specs.Fits.{Fits}
use Rattle.certify_steps.proofs.AddingLemmas.{adds_if}
use Rattle.certify_steps.proofs.stepping.read_one.Goals as goal

pub returns-in_ok-add : goal.returns-in_ok-add
returns-in_ok-add c = adds_if c.args.found.now.items c.add.new.found.items (Fits c.args.edge.now.name c.args.edge.now.args c.args.event.now) (λ l. l ≡ line_of (moved c.args.next c.args.edge.now.to) (Event c.args.number)) (c.if-fits.ensures.0 refl)
    (subst (λ x. Adds c.args.found.now.items c.add.new.found.items (λ l. l ≡ line_of x (Event c.args.number))) c.moved.ensures c.in_ok-add.ensures)
