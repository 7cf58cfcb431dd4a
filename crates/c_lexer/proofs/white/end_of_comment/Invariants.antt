use Rattle.std.proofs.Common.{◌≤◌, ◌-◌, List, ℕ, length}
use Rattle.c_lexer.specs.TokenSpelling.{HasEndAfter}
use Rattle.c_lexer.proofs.white.end_of_comment.Given as goal

abbrev pub invariant-loop-i : goal.invariant-loop-i
invariant-loop-i l = (front : List ℕ) → HasEndAfter front l.text → l.i - 1 ≤ length front
