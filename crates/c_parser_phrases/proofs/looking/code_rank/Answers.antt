use Rattle.std.proofs.Common.{ℕ, List, [], ◌∷◌, sym, arith}
use Rattle.std.proofs.lemmas.List.{get_or_default, get_or_past}
use Rattle.c_parser_phrases.proofs.looking.code_rank.Goals as goal

abbrev table : List ℕ
table =
    1 ∷ 100 ∷ 1 ∷ 100 ∷ 100 ∷ 100 ∷ 1 ∷ 1 ∷ 1 ∷ 1 ∷ 7 ∷ 2 ∷ 3 ∷ 3 ∷ 100 ∷ 100 ∷ 2 ∷ 2 ∷ 4 ∷ 4 ∷ 5 ∷ 5 ∷ 5 ∷ 5 ∷ 6 ∷ 6 ∷ 8 ∷ 9 ∷ 10 ∷ 11 ∷ 12 ∷ 100 ∷ 100 ∷ 13 ∷ 13 ∷ 13 ∷ 13 ∷ 13 ∷ 13 ∷ 13 ∷ 13 ∷ 13 ∷ 13 ∷ 13 ∷ 14 ∷ []

pub returns-then-code-lt45 : goal.returns-then-code-lt45
returns-then-code-lt45 c = get_or_default table c.args.code 0 100 (omega (arith, c.if-code-lt45.true))

pub returns-else-code-lt45 : goal.returns-else-code-lt45
returns-else-code-lt45 c = sym (get_or_past table c.args.code 100 (omega (arith, c.if-code-lt45.false)))
