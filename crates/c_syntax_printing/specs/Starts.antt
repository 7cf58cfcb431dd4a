-- What a phrase begins with, by a number for each token, and what a phrase of which more could be read does not end at.
use Rattle.std.specs.Prelude.{◌≤◌, ℕ, List, [], ◌∷◌, slice_index_or}
use Rattle.c_lexer.specs.declared.token.Token.{Token}
use Rattle.c_lexer.specs.declared.token.TokenKind.{TokenKind}
use Rattle.c_lexer.specs.declared.token.TokenKind.TheVariants.{Name, Keyword, Int, Char, Str, Punct}

-- 1 a prefix operator other than *, 2 *, 4 (, 6 [, 0 for what begins no expression and no declarator
abbrev pub start_of_code : ℕ → ℕ
start_of_code code = slice_index_or (6 ∷ 0 ∷ 4 ∷ 0 ∷ 0 ∷ 0 ∷ 0 ∷ 0 ∷ 1 ∷ 1 ∷ 1 ∷ 2 ∷ 1 ∷ 1 ∷ 1 ∷ 1 ∷ []) code 0

-- 1 sizeof, 7 int, 8 char, 9 const, 10 void, 11 unsigned, 12 signed, 13 struct, 14 enum, 15 static and extern, 0 for what begins
-- no expression and no specifiers
abbrev pub start_of_word : ℕ → ℕ
start_of_word code = slice_index_or (0 ∷ 0 ∷ 8 ∷ 9 ∷ 0 ∷ 0 ∷ 0 ∷ 0 ∷ 14 ∷ 15 ∷ 0 ∷ 0 ∷ 7 ∷ 0 ∷ 12 ∷ 1 ∷ 15 ∷ 13 ∷ 0 ∷ 11 ∷ 10 ∷ []) code 0

-- 3 for constants and strings, 5 for names: an expression begins with 1 to 5, an operand of a prefix operator with 3 to 5, a
-- declarator with 2, 4, 5 or 6, specifiers with 7 to 14
unfoldable pub start_of_kind : TokenKind → ℕ
start_of_kind (Name name) = 5
start_of_kind (Keyword k) = start_of_word k
start_of_kind (Int n unsigned) = 3
start_of_kind (Char c) = 3
start_of_kind (Str bytes) = 3
start_of_kind (Punct code) = start_of_code code

-- the number of the first token
abbrev pub start : List Token → ℕ
start [] = 0
start (t ∷ ts) = start_of_kind t.kind

-- no name, no keyword of specifiers, no (, no [ and no * stands first
abbrev pub EndsDeclarator : List Token → Type 0
EndsDeclarator ts = start ts ≤ 1

-- no keyword of specifiers or of a storage class stands first
abbrev pub EndsSpec : List Token → Type 0
EndsSpec ts = start ts ≤ 6

-- neither static nor extern stands first
abbrev pub EndsStorage : List Token → Type 0
EndsStorage ts = start ts ≤ 14
