use Rattle.std.proofs.Common.{[], take}
use Rattle.dm_base.specs.Adding.{Has, Adds}
use Rattle.stack_automaton.specs.Links.{functions_of}
use Rattle.stack_automaton.specs.Storing.{IsLinkEdge}
use Rattle.stack_automaton.proofs.edges.link_edges.Given as goal

abbrev pub invariant-loop-link : goal.invariant-loop-link
invariant-loop-link l = Adds [] l.edges.items (λ e. Has (λ k. IsLinkEdge (functions_of l.links) l.keys k e) (take l.link-index l.list))
