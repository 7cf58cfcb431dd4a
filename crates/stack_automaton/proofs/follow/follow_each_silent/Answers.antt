use Rattle.std.proofs.Common.{◌≡◌}
use Rattle.dm_base.proofs.AddingLemmas.{adds_step_at, adds_end}
use Rattle.stack_automaton.proofs.follow.follow_each_silent.Goals as goal

pub loop-edge-preserved : goal.loop-edge-preserved
loop-edge-preserved c = adds_step_at c.args.facts.now.keys c.loop-edge.facts.keys c.add_at.new.facts.keys (λ e y. y ≡ record { node = e.to; place = c.args.place }) c.args.edges.now c.loop-edge.edge-index (record { from = 0; to = 0 }) c.loop-edge-test.true c.loop-edge.invariant c.in_ok-add_at.ensures

pub returns : goal.returns
returns c = adds_end c.args.facts.now.keys c.loop-edge.facts.keys (λ e y. y ≡ record { node = e.to; place = c.args.place }) c.args.edges.now c.loop-edge.edge-index c.loop-edge-test.false c.loop-edge.invariant
