use Rattle.std.proofs.Common.{ℕ, List, [], ◌∷◌, sym, arith}
use Rattle.std.proofs.lemmas.List.{get_or_default, get_or_past}
use Rattle.c_parser.proofs.starts.code_head.Goals as goal

abbrev table : List ℕ
table =
    15 ∷ 16 ∷ 20 ∷ 10 ∷ 21 ∷ 5 ∷ 16 ∷ 16 ∷ 20 ∷ 20 ∷ 20 ∷ 20 ∷ 20 ∷ 20 ∷ 20 ∷ 20 ∷ 16 ∷ 16 ∷ 16 ∷ 16 ∷ 16 ∷ 16 ∷ 16 ∷ 16 ∷ 16 ∷ 16 ∷ 16 ∷ 16 ∷ 16 ∷ 16 ∷ 16 ∷ 8 ∷ 22 ∷ 9 ∷ 16 ∷ 16 ∷ 16 ∷ 16 ∷ 16 ∷ 16 ∷ 16 ∷ 16 ∷ 16 ∷ 16 ∷ 7 ∷ []

pub returns-then-code-lt45 : goal.returns-then-code-lt45
returns-then-code-lt45 c = get_or_default table c.args.code 0 16 (omega (arith, c.if-code-lt45.true))

pub returns-else-code-lt45 : goal.returns-else-code-lt45
returns-else-code-lt45 c = sym (get_or_past table c.args.code 16 (omega (arith, c.if-code-lt45.false)))
