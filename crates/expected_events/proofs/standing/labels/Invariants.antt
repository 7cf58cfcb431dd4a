use Rattle.std.proofs.Common.{◌≡◌, ◌↔◌, ℕ, ◌<◌, take}
use Rattle.dm_sets.specs.Nodes.{Has}
use Rattle.stack_automaton.specs.declared.place.Edge.{Edge}
use Rattle.dm_base.specs.Adding.{Has as HasOne}
use Rattle.expected_events.proofs.standing.labels.Given as goal

abbrev pub invariant-loop-edge : goal.invariant-loop-edge
invariant-loop-edge l = record {
  size : l.at.size ≡ l.model.nodes;
  marked : (a : ℕ) → a < l.model.nodes → Has l.at a ↔ HasOne (λ (e : Edge). e.label ≡ a) (take l.edge-index l.edges);
}
