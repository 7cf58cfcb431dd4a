use Rattle.std.proofs.Common.{take}
use Rattle.line_text.specs.Words.{IsPlain}
use Rattle.line_text.proofs.cursor.first_end.Given as goal

-- no byte before this one ends a word
abbrev pub invariant-loop-i : goal.invariant-loop-i
invariant-loop-i l = IsPlain (take l.i l.text)
