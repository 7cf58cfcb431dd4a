use Rattle.std.proofs.Common.{[]}
use Rattle.stack_automaton.specs.Moving.{IsReadFrom}
use Rattle.dm_base.proofs.AddingLemmas.{adds_step_at, adds_end, are_all}
use Rattle.stack_automaton.proofs.event.first_facts.Goals as goal

pub loop-edge-preserved : goal.loop-edge-preserved
loop-edge-preserved c = adds_step_at [] c.loop-edge.facts.keys c.read_from.new.facts.keys (λ e x. IsReadFrom c.args.model.now c.args.event.now e x) c.args.edges.now c.loop-edge.edge-index (record { label = 0; to = 0 }) c.loop-edge-test.true c.loop-edge.invariant c.in_ok-read_from.ensures

pub returns : goal.returns
returns c = are_all c.loop-edge.facts.keys _ (adds_end [] c.loop-edge.facts.keys (λ e x. IsReadFrom c.args.model.now c.args.event.now e x) c.args.edges.now c.loop-edge.edge-index c.loop-edge-test.false c.loop-edge.invariant)
