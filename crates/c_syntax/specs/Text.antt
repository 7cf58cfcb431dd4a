-- The text of tokens: one space between two tokens of a line, and a line ends after each `;`, `{` and `}`.
use Rattle.std.specs.Prelude.{ℕ, ◌+◌, ◌/◌, ◌%◌, ◌&&◌, ◌||◌, ℤ, pos, unsigned_abs, Bool, true, false, List, [], ◌∷◌, ◌++◌, nat_eq, nat_le, slice_get, unwrap_or, if◌then◌else◌, decimal}
use Rattle.std.specs.Int.{int_rem_euclid}
use Rattle.c_lexer.specs.declared.token.TokenKind.{TokenKind}
use Rattle.c_lexer.specs.declared.token.TokenKind.TheVariants.{Name, Keyword, Int, Char, Str, Punct}
use Rattle.c_lexer.specs.declared.punctuator.TheConstants.{LEFT_BRACE, RIGHT_BRACE, SEMICOLON}
use Rattle.c_lexer.specs.Words.{keywords, punctuators}
use Rattle.c_syntax.specs.Tree.{Items}
use Rattle.c_syntax.specs.Print.{unit_kinds}

-- the byte that a character is: its value modulo 256 (6.2.6.2, 6.4.4.4)
abbrev pub byte_of : ℤ → ℕ
byte_of c = unsigned_abs (int_rem_euclid c (pos 256))

-- a byte from 32 to 126 stands for itself, the quote and the backslash after a backslash, and each other byte as three octal digits
abbrev pub element_text : ℕ → ℕ → List ℕ
element_text quote b =
    if nat_eq b quote || nat_eq b 92 then (92 ∷ b ∷ [])
    else (if nat_le 32 b && nat_le b 126 then (b ∷ []) else (92 ∷ (b / 64 + 48) ∷ (b / 8 % 8 + 48) ∷ (b % 8 + 48) ∷ []))

abbrev pub elements_text : ℕ → List ℕ → List ℕ
elements_text quote [] = []
elements_text quote (b ∷ bytes) = element_text quote b ++ elements_text quote bytes

-- an unsigned constant has the suffix u
abbrev pub constant_text : ℕ → Bool → List ℕ
constant_text value true = decimal value ++ 117 ∷ []
constant_text value false = decimal value

abbrev pub kind_text : TokenKind → List ℕ
kind_text (Name name) = name
kind_text (Keyword k) = unwrap_or (slice_get keywords k) []
kind_text (Int value unsigned) = constant_text value unsigned
kind_text (Char c) = 39 ∷ element_text 39 (byte_of c) ++ 39 ∷ []
kind_text (Str bytes) = 34 ∷ elements_text 34 bytes ++ 34 ∷ []
kind_text (Punct p) = unwrap_or (slice_get punctuators p) []

-- `;`, `{` or `}`
abbrev pub ends_line : TokenKind → Bool
ends_line (Name name) = false
ends_line (Keyword k) = false
ends_line (Int value unsigned) = false
ends_line (Char c) = false
ends_line (Str bytes) = false
ends_line (Punct p) = nat_eq p SEMICOLON || (nat_eq p LEFT_BRACE || nat_eq p RIGHT_BRACE)

-- what stands after a token
abbrev pub space_after : TokenKind → ℕ
space_after kind = if ends_line kind then 10 else 32

abbrev pub kinds_text : List TokenKind → List ℕ
kinds_text [] = []
kinds_text (kind ∷ kinds) = kind_text kind ++ space_after kind ∷ kinds_text kinds

-- the printed text of a unit; its last token ends a line
abbrev pub unit_text : Items → List ℕ
unit_text unit = kinds_text (unit_kinds unit [])
