use Rattle.std.proofs.Common.{◌≡◌}
use Rattle.dm_base.specs.Fits.{Fits}
use Rattle.flow_model.specs.declared.records.SysEdge.{SysEdge}
use Rattle.certify_facts.specs.declared.fact.Reason.TheVariants.{Event}
use Rattle.certify_steps.specs.Stepping.{moved, line_of}
use Rattle.certify_steps.proofs.AddingLemmas.{adds_init, adds_step, adds_end}
use Rattle.certify_steps.proofs.stepping.read_each.Goals as goal

pub loop-edge-init : goal.loop-edge-init
loop-edge-init c = adds_init c.args.found.now.items (λ (s : SysEdge) l. Fits s.name s.args c.args.event.now × (l ≡ line_of (moved c.args.next s.to) (Event c.args.number)))

pub loop-edge-preserved : goal.loop-edge-preserved
loop-edge-preserved c = adds_step c.args.found.now.items c.loop-edge.found.items c.read_one.new.found.items (λ (s : SysEdge) l. Fits s.name s.args c.args.event.now × (l ≡ line_of (moved c.args.next s.to) (Event c.args.number))) c.args.edges.now c.loop-edge.edge-index c.edge-item.result c.loop-edge-test.true c.edge-item.is c.loop-edge.invariant c.in_ok-read_one.ensures

pub returns : goal.returns
returns c = adds_end c.args.found.now.items c.loop-edge.found.items (λ (s : SysEdge) l. Fits s.name s.args c.args.event.now × (l ≡ line_of (moved c.args.next s.to) (Event c.args.number))) c.args.edges.now c.loop-edge.edge-index c.loop-edge-test.false c.loop-edge.invariant
