use Rattle.std.proofs.Common.{◌≡◌, sym, subst}
use Rattle.certify_facts.specs.declared.fact.Reason.TheVariants.{Event}
use Rattle.certify_facts.specs.Confirms.{IsWithin}
use Rattle.certify_facts.specs.Reasons.{IsRead}
use Rattle.certify_steps.specs.Adding.{Adds}
use Rattle.certify_steps.proofs.AddingLemmas.{adds_same}
use Rattle.certify_steps.proofs.FollowLemmas.{later_walk, later_run}
use Rattle.certify_steps.proofs.stepping.follow_event.Goals as goal

pub returns-in_ok-read_at-in-Callgraph : goal.returns-in_ok-read_at-in-Callgraph
returns-in_ok-read_at-in-Callgraph c =
    subst (λ x. Adds c.args.found.now.items c.read_at.new.found.items (λ l. (l.reason ≡ Event c.args.number) × IsRead c.args.model.now c.args.trace.now x l.fact × IsWithin c.args.last l.fact)) (sym c.in-Callgraph.is)
    (adds_same c.args.found.now.items c.read_at.new.found.items _ _ (λ l. later_walk c.args.model.now c.args.trace.now c.args.number c.args.last c.in-Callgraph.k c.in-Callgraph.v l c.if-k-last.true) c.in_ok-read_at-in-Callgraph.ensures)

pub returns-in_ok-read_at-in-At : goal.returns-in_ok-read_at-in-At
returns-in_ok-read_at-in-At c =
    subst (λ x. Adds c.args.found.now.items c.read_at-then-k-last-2.new.found.items (λ l. (l.reason ≡ Event c.args.number) × IsRead c.args.model.now c.args.trace.now x l.fact × IsWithin c.args.last l.fact)) (sym c.in-At.is)
    (adds_same c.args.found.now.items c.read_at-then-k-last-2.new.found.items _ _ (λ l. later_run c.args.model.now c.args.trace.now c.args.number c.args.last c.in-At.k c.in-At.i c.in-At.f c.in-At.v l c.if-k-last-2.true) c.in_ok-read_at-in-At.ensures)
