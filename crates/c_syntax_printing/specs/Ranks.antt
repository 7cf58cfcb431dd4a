-- What may follow an expression of a level, by numbers: a rank for each token that may continue one.
use Rattle.std.specs.Prelude.{◌≤◌, ℕ, ◌+◌, List, [], ◌∷◌, slice_index_or}
use Rattle.c_lexer.specs.declared.token.Token.{Token}
use Rattle.c_lexer.specs.declared.token.TokenKind.{TokenKind}
use Rattle.c_lexer.specs.declared.token.TokenKind.TheVariants.{Name, Keyword, Int, Char, Str, Punct}
use Rattle.c_syntax.specs.Grammar.{Level, primary_level, binary_level, conditional_level, assignment_level, expression_level}

-- What may continue an expression: 0 another string, 1 what stands after an operand, n + 1 an operator of the level n of
-- binary operators, 12 ?, 13 an assignment operator, 14 a comma, and 100 for tokens that continue none.
abbrev pub rank_of_code : ℕ → ℕ
rank_of_code code =
    slice_index_or
    (1 ∷ 100 ∷ 1 ∷ 100 ∷ 100 ∷ 100 ∷ 1 ∷ 1 ∷ 1 ∷ 1 ∷ 7 ∷ 2 ∷ 3 ∷ 3 ∷ 100 ∷ 100 ∷ 2 ∷ 2 ∷ 4 ∷ 4 ∷ 5 ∷ 5 ∷ 5 ∷ 5 ∷ 6 ∷ 6 ∷ 8 ∷ 9 ∷ 10 ∷ 11 ∷ 12 ∷ 100 ∷ 100 ∷ 13 ∷ 13 ∷ 13 ∷ 13 ∷ 13 ∷ 13 ∷ 13 ∷ 13 ∷ 13 ∷ 13 ∷ 13 ∷ 14 ∷ [])
    code
    100

unfoldable pub rank_of_kind : TokenKind → ℕ
rank_of_kind (Name name) = 100
rank_of_kind (Keyword k) = 100
rank_of_kind (Int value unsigned) = 100
rank_of_kind (Char c) = 100
rank_of_kind (Str bytes) = 0
rank_of_kind (Punct code) = rank_of_code code

abbrev pub rank : List Token → ℕ
rank [] = 100
rank (t ∷ ts) = rank_of_kind t.kind

-- an expression of the level goes on only with tokens of a lower rank
abbrev pub bound : Level → ℕ
bound primary_level = 1
bound (binary_level n) = n + 2
bound conditional_level = 13
bound assignment_level = 14
bound expression_level = 15
bound l = 2

-- what follows does not continue an expression of the level
abbrev pub Stops : Level → List Token → Type 0
Stops l ts = bound l ≤ rank ts
