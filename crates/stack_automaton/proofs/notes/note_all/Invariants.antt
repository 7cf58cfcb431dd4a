use Rattle.std.proofs.Common.{◌-◌, ◌^◌}
use Rattle.slab.specs.Slab.{get}
use Rattle.stack_automaton.specs.Noting.{AreNotedTo}
use Rattle.stack_automaton.proofs.notes.note_all.Given as goal

abbrev pub invariant-loop-key : goal.invariant-loop-key
invariant-loop-key l = AreNotedTo (get l.states) l.fn.noted.keys l.noted.keys l.i

abbrev pub decreases-loop-key : goal.decreases-loop-key
decreases-loop-key l = 2 ^ 64 - l.i
