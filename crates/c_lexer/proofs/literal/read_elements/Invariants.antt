use Rattle.std.proofs.Common.{◌-◌, length}
use Rattle.c_lexer.specs.Elements.{HasRead}
use Rattle.c_lexer.proofs.literal.read_elements.Given as goal

abbrev pub invariant-loop-element : goal.invariant-loop-element
invariant-loop-element l = HasRead l.quote l.text l.found

abbrev pub decreases-loop-element : goal.decreases-loop-element
decreases-loop-element l = length l.text - l.found.length
