use Rattle.certify_steps.specs.Adding.{Adds}
use Rattle.std.proofs.Common.{◌≡◌, subst}
use Rattle.flow_model.specs.declared.records.SilentEdge.{SilentEdge}
use Rattle.certify_facts.specs.declared.fact.Reason.TheVariants.{Silent}
use Rattle.certify_steps.specs.Stepping.{moved, line_of}
use Rattle.certify_steps.proofs.AddingLemmas.{adds_init, adds_step_at, adds_end}
use Rattle.certify_steps.proofs.stepping.follow_each_silent.Goals as goal

pub loop-edge-init : goal.loop-edge-init
loop-edge-init c = adds_init c.args.found.now.items (λ (e : SilentEdge) l. l ≡ line_of (moved c.args.fact e.to) (Silent c.args.number))

pub loop-edge-preserved : goal.loop-edge-preserved
loop-edge-preserved c = adds_step_at c.args.found.now.items c.loop-edge.found.items c.add.new.found.items (λ (e : SilentEdge) l. l ≡ line_of (moved c.args.fact e.to) (Silent c.args.number)) c.args.edges.now c.loop-edge.edge-index (record { from = 0; to = 0 }) c.loop-edge-test.true c.loop-edge.invariant
    (subst (λ x. Adds c.loop-edge.found.items c.add.new.found.items (λ l. l ≡ line_of x (Silent c.args.number))) c.moved.ensures c.in_ok-add.ensures)

pub returns : goal.returns
returns c = adds_end c.args.found.now.items c.loop-edge.found.items (λ (e : SilentEdge) l. l ≡ line_of (moved c.args.fact e.to) (Silent c.args.number)) c.args.edges.now c.loop-edge.edge-index c.loop-edge-test.false c.loop-edge.invariant
