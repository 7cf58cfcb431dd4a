-- Which kinds of token can stand first in a phrase. Each kind has a number: a phrase is told by the number of its first token.
use Rattle.std.specs.Prelude.{ℕ, List, [], ◌∷◌, slice_index_or}
use Rattle.c_lexer.specs.declared.token.Token.{Token}
use Rattle.c_lexer.specs.declared.token.TokenKind.{TokenKind}
use Rattle.c_lexer.specs.declared.token.TokenKind.TheVariants.{Name, Keyword, Int, Char, Str, Punct}

-- 20 begins an expression, 2 is a word of a type, 3 one of storage, 11 and 12 begin labels, 21 to 30 the other statements
abbrev pub head_of_code : ℕ → ℕ
head_of_code code =
    slice_index_or
    (15 ∷ 16 ∷ 20 ∷ 10 ∷ 21 ∷ 5 ∷ 16 ∷ 16 ∷ 20 ∷ 20 ∷ 20 ∷ 20 ∷ 20 ∷ 20 ∷ 20 ∷ 20 ∷ 16 ∷ 16 ∷ 16 ∷ 16 ∷ 16 ∷ 16 ∷ 16 ∷ 16 ∷ 16 ∷ 16 ∷ 16 ∷ 16 ∷ 16 ∷ 16 ∷ 16 ∷ 8 ∷ 22 ∷ 9 ∷ 16 ∷ 16 ∷ 16 ∷ 16 ∷ 16 ∷ 16 ∷ 16 ∷ 16 ∷ 16 ∷ 16 ∷ 7 ∷ [])
    code
    16

abbrev pub head_of_word : ℕ → ℕ
head_of_word word =
    slice_index_or
    (28 ∷ 11 ∷ 2 ∷ 2 ∷ 29 ∷ 12 ∷ 25 ∷ 13 ∷ 2 ∷ 3 ∷ 26 ∷ 23 ∷ 2 ∷ 30 ∷ 2 ∷ 20 ∷ 3 ∷ 2 ∷ 27 ∷ 2 ∷ 2 ∷ 24 ∷ [])
    word
    16

unfoldable pub head_of_kind : TokenKind → ℕ
head_of_kind (Name name) = 20
head_of_kind (Keyword word) = head_of_word word
head_of_kind (Int number unsigned) = 20
head_of_kind (Char c) = 20
head_of_kind (Str bytes) = 20
head_of_kind (Punct code) = head_of_code code

-- the number of the first token, and of the second one
abbrev pub head : List Token → ℕ
head [] = 0
head (t ∷ ts) = head_of_kind t.kind

abbrev pub second : List Token → ℕ
second [] = 0
second (t ∷ ts) = head ts
