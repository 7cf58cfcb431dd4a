-- The words of a line text: numbers are canonical decimals, bytes are lower-case hexadecimal.
use Rattle.std.specs.Prelude.{◌≡◌, ◌⊎◌, ℕ, ℤ, Bool, true, not, ◌&&◌, nat_eq, List, [], ◌∷◌, ◌++◌, codes, decimal, Option, Some, None}
use Rattle.std.specs.Fmt.{signed_decimal}
use Rattle.hex.specs.Hex.{encode_lower}

-- a byte that ends a word: a space before a further word, or the line feed of the line
abbrev pub IsEnd : ℕ → Type 0
IsEnd end = (end ≡ 32) ⊎ (end ≡ 10)

-- no byte of the word ends a word
abbrev pub IsPlain : List ℕ → Type 0
IsPlain [] = Unit {0}
IsPlain (b ∷ word) = (IsEnd b → ⊥) × IsPlain word

-- a word stands first, and this byte after it
abbrev pub EndsWith : ℕ → List ℕ → Type 0
EndsWith end text = (word : List ℕ) × (rest : List ℕ) × IsPlain word × (text ≡ word ++ end ∷ rest)

-- the first space or line feed of the text
abbrev pub IsNextEnd : List ℕ → Option ℕ → Type 0
IsNextEnd text (Some end) = IsEnd end × EndsWith end text
IsNextEnd text None = IsPlain text

-- a word and the byte after it
abbrev pub ended_word : ℕ → List ℕ → List ℕ
ended_word end word = word ++ end ∷ []

-- the word has no line feed but as its last byte
abbrev pub is_in_line : List ℕ → Bool
is_in_line [] = true
is_in_line (b ∷ []) = true
is_in_line (b ∷ c ∷ rest) = not (nat_eq b 10) && is_in_line (c ∷ rest)

-- a number from 0 and the byte after it
abbrev pub number_word : ℕ → ℕ → List ℕ
number_word end n = decimal n ++ end ∷ []

-- a number, with `-` where it is below 0, and the byte after it
abbrev pub integer_word : ℕ → ℤ → List ℕ
integer_word end z = signed_decimal z ++ end ∷ []

-- two lower-case hexadecimal digits for each byte, and the byte after them
abbrev pub hexadecimal_word : ℕ → List ℕ → List ℕ
hexadecimal_word end bytes = encode_lower bytes ++ end ∷ []

-- bytes as a word: `-` for none
abbrev pub bytes_text : List ℕ → List ℕ
bytes_text [] = codes "-"
bytes_text (b ∷ bytes) = encode_lower (b ∷ bytes)

-- bytes as a word, and the byte after it
abbrev pub bytes_word : ℕ → List ℕ → List ℕ
bytes_word end bytes = bytes_text bytes ++ end ∷ []
