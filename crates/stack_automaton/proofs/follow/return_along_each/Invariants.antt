use Rattle.std.proofs.Common.{take}
use Rattle.dm_base.specs.Adding.{Has, Adds}
use Rattle.stack_automaton.specs.Following.{IsReturn}
use Rattle.stack_automaton.proofs.follow.return_along_each.Given as goal

abbrev pub invariant-loop-edge : goal.invariant-loop-edge
invariant-loop-edge l = Adds l.fn.facts.keys l.facts.keys (λ y. Has (λ e. Has (IsReturn l.model.functions l.node e y) l.model.calls) (take l.edge-index l.edges))
