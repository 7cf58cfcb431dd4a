use Rattle.std.proofs.Common.{[], take}
use Rattle.dm_base.specs.Adding.{Has, Adds}
use Rattle.stack_automaton.specs.Links.{functions_of}
use Rattle.stack_automaton.specs.Storing.{IsTopEdge}
use Rattle.stack_automaton.proofs.edges.tops.Given as goal

abbrev pub invariant-loop-fact : goal.invariant-loop-fact
invariant-loop-fact l = Adds [] l.edges.items (λ e. Has (λ x. IsTopEdge (functions_of l.links) l.keys x e) (take l.fact-index l.facts))
