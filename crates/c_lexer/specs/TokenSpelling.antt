-- White space, tokens, and the tokens that a text spells (C99 6.4).
use Rattle.std.specs.Prelude.{◌≡◌, ◌≢◌, ◌⊎◌, ◌≤◌, ◌+◌, ℕ, List, [], ◌∷◌, ◌++◌, All, Contains, length, take, drop}
use Rattle.dm_base.specs.Name.{IsDigit}
use Rattle.dm_base.specs.declared.mode.Mode.{Mode}
use Rattle.dm_base.specs.declared.mode.Mode.TheVariants.{Plain, Instrumented}
use Rattle.c_lexer.specs.declared.token.TokenKind.{TokenKind}
use Rattle.c_lexer.specs.declared.token.Token.{Token}
use Rattle.c_lexer.specs.Kinds.{Spells, IsLexeme}

-- the greatest length of a text in bytes
abbrev pub longest_text : Mode → ℕ
longest_text Plain = 1048576
longest_text Instrumented = 16777216

-- a byte that is white space by itself: 9 to 13, or a space
abbrev pub IsBlank : ℕ → Type 0
IsBlank b = ((9 ≤ b) × (b ≤ 13)) ⊎ (b ≡ 32)

-- a line ends here: the text does, or a line feed comes
abbrev pub IsLineEnd : List ℕ → Type 0
IsLineEnd [] = Unit {0}
IsLineEnd (b ∷ rest) = b ≡ 10

-- no line feed
abbrev pub IsInLine : List ℕ → Type 0
IsInLine w = Contains w 10 → ⊥

-- the text begins a comment
abbrev pub BeginsLineComment : List ℕ → Type 0
BeginsLineComment i = (rest : List ℕ) × (i ≡ 47 ∷ 47 ∷ rest)

abbrev pub BeginsBlockComment : List ℕ → Type 0
BeginsBlockComment i = (rest : List ℕ) × (i ≡ 47 ∷ 42 ∷ rest)

-- a comment from // to the end of its line, which is left (6.4.9 paragraph 2)
abbrev pub IsLineComment : List ℕ → List ℕ → Type 0
IsLineComment w rest = BeginsLineComment w × IsInLine w × IsLineEnd rest

-- */ stands in the text after a front
abbrev pub HasEndAfter : List ℕ → List ℕ → Type 0
HasEndAfter front inner = (rest : List ℕ) × (inner ≡ front ++ 42 ∷ 47 ∷ rest)

-- a comment from /* to the first */ after it (6.4.9 paragraph 1)
pub record IsBlockComment (w : List ℕ) : Type 0 where
  pub inner : List ℕ
  pub is : w ≡ 47 ∷ 42 ∷ inner ++ 42 ∷ 47 ∷ []
  pub first : (front : List ℕ) → HasEndAfter front (inner ++ 42 ∷ 47 ∷ []) → length inner ≤ length front

-- only spaces and tabs stand on the line that the text ends in
pub record EndsInMargin (front : List ℕ) : Type 0 where
  pub lines : List ℕ
  pub margin : List ℕ
  pub is : front ≡ lines ++ margin
  pub begins : (lines ≡ []) ⊎ ((before : List ℕ) × (lines ≡ before ++ 10 ∷ []))
  pub blank : All (λ b. (b ≡ 32) ⊎ (b ≡ 9)) margin

-- A line marker, as a preprocessor writes it: # first on its line, a space, digits, a space, a double quote, and any bytes
-- to the line's end.
pub record IsLineMarker (front w rest : List ℕ) : Type 0 where
  pub margin : EndsInMargin front
  pub digits : List ℕ
  pub name : List ℕ
  pub is : w ≡ 35 ∷ 32 ∷ digits ++ 32 ∷ 34 ∷ name
  pub some : digits ≢ []
  pub are_digits : All IsDigit digits
  pub in_line : IsInLine w
  pub ended : IsLineEnd rest

-- one piece of white space, which stands after the front and before the rest
pub data IsWhite (front : List ℕ) : List ℕ → List ℕ → Type 0 where
  blank : {b : ℕ} {rest : List ℕ} → IsBlank b → IsWhite front (b ∷ []) rest
  line_comment : {w rest : List ℕ} → IsLineComment w rest → IsWhite front w rest
  block_comment : {w rest : List ℕ} → IsBlockComment w → IsWhite front w rest
  line_marker : {w rest : List ℕ} → IsLineMarker front w rest → IsWhite front w rest

-- A token's text, which stands before the rest: it spells the kind, no longer text there is taken whole, and no comment begins there.
pub record IsToken (kind : TokenKind) (w rest : List ℕ) : Type 0 where
  pub spells : Spells kind w
  pub longest : (x y : List ℕ) → w ++ rest ≡ x ++ y → IsLexeme x → length x ≤ length w
  pub no_line_comment : BeginsLineComment (w ++ rest) → ⊥
  pub no_block_comment : BeginsBlockComment (w ++ rest) → ⊥

-- the bytes w stand in the text from the place p to the place q
pub record Stand (text w : List ℕ) (p q : ℕ) : Type 0 where
  pub long : q ≡ p + length w
  pub are : drop p text ≡ w ++ drop q text
  pub within : q ≤ length text

-- From the place p to the place q the text is white space and the tokens, in order.
pub data SpellsFrom (text : List ℕ) : ℕ → ℕ → List Token → Type 0 where
  nothing : {p : ℕ} → SpellsFrom text p p []
  white : {p q r : ℕ} {w : List ℕ} {tokens : List Token} → Stand text w p q → IsWhite (take p text) w (drop q text) → SpellsFrom text q r tokens → SpellsFrom text p r tokens
  token : {p q r : ℕ} {w : List ℕ} {t : Token} {tokens : List Token} → Stand text w p q → IsToken t.kind w (drop q text) → t.from ≡ p → t.to ≡ q → SpellsFrom text q r tokens → SpellsFrom text p r (t ∷ tokens)

-- the text, which is not too long for the mode, is white space and the tokens, in order
pub record SpellsTokens (text : List ℕ) (mode : Mode) (tokens : List Token) : Type 0 where
  pub short : length text ≤ longest_text mode
  pub whole : SpellsFrom text 0 (length text) tokens
