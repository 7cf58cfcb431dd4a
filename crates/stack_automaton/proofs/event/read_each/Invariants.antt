use Rattle.std.proofs.Common.{take}
use Rattle.dm_base.specs.Adding.{Has, Adds}
use Rattle.stack_automaton.specs.Moving.{IsRead}
use Rattle.stack_automaton.proofs.event.read_each.Given as goal

abbrev pub invariant-loop-one : goal.invariant-loop-one
invariant-loop-one l = Adds l.fn.facts.keys l.facts.keys (λ x. Has (IsRead l.event l.edge x) (take l.one-index l.sys))
