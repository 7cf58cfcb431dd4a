use Rattle.std.proofs.Common.{◌≡◌}
use Rattle.dm_base.proofs.AddingLemmas.{adds_step_at, adds_end}
use Rattle.stack_automaton.proofs.notes.note_edges.Goals as goal

pub loop-edge-preserved : goal.loop-edge-preserved
loop-edge-preserved c = adds_step_at c.args.noted.now.keys c.loop-edge.noted.keys c.note.new.noted.keys (λ e k. k ≡ e.to) c.args.edges.now c.loop-edge.edge-index (record { label = 0; to = 0 }) c.loop-edge-test.true c.loop-edge.invariant c.in_ok-note.ensures

pub returns : goal.returns
returns c = adds_end c.args.noted.now.keys c.loop-edge.noted.keys (λ e k. k ≡ e.to) c.args.edges.now c.loop-edge.edge-index c.loop-edge-test.false c.loop-edge.invariant
