use Rattle.std.proofs.Common.{◌≡◌, take}
use Rattle.dm_base.specs.Adding.{Has, Adds}
use Rattle.stack_automaton.proofs.notes.note_edges.Given as goal

abbrev pub invariant-loop-edge : goal.invariant-loop-edge
invariant-loop-edge l = Adds l.fn.noted.keys l.noted.keys (λ k. Has (λ e. k ≡ e.to) (take l.edge-index l.edges))
