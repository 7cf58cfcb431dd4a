use Rattle.dm_base.specs.Adding.{Has}
use Rattle.stack_automaton.specs.Following.{IsReturn}
use Rattle.dm_base.proofs.AddingLemmas.{adds_step_at, adds_end}
use Rattle.stack_automaton.proofs.follow.return_along_each.Goals as goal

pub loop-edge-preserved : goal.loop-edge-preserved
loop-edge-preserved c = adds_step_at c.args.facts.now.keys c.loop-edge.facts.keys c.return_along.new.facts.keys (λ e y. Has (IsReturn c.args.model.now.functions c.args.node e y) c.args.model.now.calls) c.args.edges.now c.loop-edge.edge-index (record { label = 0; to = 0 }) c.loop-edge-test.true c.loop-edge.invariant c.in_ok-return_along.ensures

pub returns : goal.returns
returns c = adds_end c.args.facts.now.keys c.loop-edge.facts.keys (λ e y. Has (IsReturn c.args.model.now.functions c.args.node e y) c.args.model.now.calls) c.args.edges.now c.loop-edge.edge-index c.loop-edge-test.false c.loop-edge.invariant
