use Rattle.std.proofs.Common.{◌-◌, ◌^◌}
use Rattle.slab.specs.Slab.{get}
use Rattle.stack_automaton.specs.Following.{AreFollowedTo}
use Rattle.stack_automaton.proofs.saturate.saturate.Given as goal

abbrev pub invariant-loop-fact : goal.invariant-loop-fact
invariant-loop-fact l = AreFollowedTo l.model (get l.states) l.fn.begin.keys l.facts.keys l.links l.ended.keys l.i

abbrev pub decreases-loop-fact : goal.decreases-loop-fact
decreases-loop-fact l = 2 ^ 64 - l.i
