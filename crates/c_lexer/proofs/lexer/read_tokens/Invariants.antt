use Rattle.std.proofs.Common.{◌≤◌, ◌-◌, length}
use Rattle.c_lexer.specs.TokenSpelling.{SpellsFrom}
use Rattle.c_lexer.proofs.lexer.read_tokens.Given as goal

abbrev pub invariant-loop-at : goal.invariant-loop-at
invariant-loop-at l = record { within : l.at ≤ length l.text; reads : SpellsFrom l.text 0 l.at l.tokens.items }

abbrev pub decreases-loop-at : goal.decreases-loop-at
decreases-loop-at l = length l.text - l.at
