use Rattle.std.proofs.Common.{take, Contains}
use Rattle.stack_automaton.specs.declared.place.Link.{Link}
use Rattle.stack_automaton.specs.Links.{functions_of}
use Rattle.stack_automaton.specs.Resolving.{IsKnown}
use Rattle.stack_automaton.proofs.resolve.are_known.Given as goal

abbrev pub invariant-loop-link : goal.invariant-loop-link
invariant-loop-link l = (k : Link) → Contains (take l.link-index l.list) k → IsKnown (functions_of l.links) l.known.keys k.place
