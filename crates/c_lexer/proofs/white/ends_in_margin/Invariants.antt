use Rattle.std.proofs.Common.{◌≡◌, drop}
use Rattle.std.specs.Prelude.{All, ◌⊎◌}
use Rattle.c_lexer.proofs.white.ends_in_margin.Given as goal

abbrev pub invariant-loop-i : goal.invariant-loop-i
invariant-loop-i l = All (λ b. (b ≡ 32) ⊎ (b ≡ 9)) (drop l.i l.front)
