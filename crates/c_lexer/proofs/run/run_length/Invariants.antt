use Rattle.std.proofs.Common.{All, take}
use Rattle.c_lexer.specs.Runs.{IsOf}
use Rattle.c_lexer.proofs.run.run_length.Given as goal

abbrev pub invariant-loop-place : goal.invariant-loop-place
invariant-loop-place l = All (IsOf l.class) (take l.place l.text)
