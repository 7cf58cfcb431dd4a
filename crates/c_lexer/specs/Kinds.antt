-- What spells a token of each kind.
use Rattle.std.specs.Prelude.{◌≡◌, ◌⊎◌, ◌≤◌, ◌<◌, ◌^◌, ◌≤ℤ◌, ℕ, pos, negsuc, Bool, true, false, List, All, Contains, Some, slice_get}
use Rattle.dm_base.specs.Name.{IsName}
use Rattle.c_lexer.specs.declared.token.TokenKind.{TokenKind}
use Rattle.c_lexer.specs.declared.token.TokenKind.TheVariants.{Name, Keyword, Int, Char, Str, Punct}
use Rattle.c_lexer.specs.Words.{keywords, punctuators, IsWord, IsNumber}
use Rattle.c_lexer.specs.Literals.{IsConstant, type_of, IsCharacter, IsString, char_value}

-- a byte, as the value of an element
abbrev pub IsByte : ℕ → Type 0
IsByte v = v ≤ 255

-- the text spells a token of the kind
abbrev pub Spells : TokenKind → List ℕ → Type 0
Spells (Name name) w = (name ≡ w) × IsName w
Spells (Keyword k) w = slice_get keywords k ≡ Some w
Spells (Int value unsigned) w = (decimal : Bool) × (suffixed : Bool) × IsConstant w value decimal suffixed × (type_of decimal suffixed value ≡ Some unsigned)
Spells (Char c) w = (v : ℕ) × IsCharacter w v × IsByte v × (c ≡ char_value v)
Spells (Str bytes) w = IsString w bytes × All IsByte bytes
Spells (Punct p) w = slice_get punctuators p ≡ Some w

-- some text spells the kind
abbrev pub SpellsSome : TokenKind → Type 0
SpellsSome kind = (w : List ℕ) × Spells kind w

-- What is taken whole before it is asked which token it spells (the preprocessing tokens of C99 6.4): a word, a number,
-- a literal with one element or with any, or a punctuator.
abbrev pub IsLexeme : List ℕ → Type 0
IsLexeme w = IsWord w ⊎ (IsNumber w ⊎ (((v : ℕ) × IsCharacter w v) ⊎ (((vs : List ℕ) × IsString w vs) ⊎ Contains punctuators w)))

-- the kinds that some text spells
abbrev pub IsKind : TokenKind → Type 0
IsKind (Name name) = IsName name
IsKind (Keyword k) = k < 22
IsKind (Int value true) = value < 2 ^ 32
IsKind (Int value false) = value < 2 ^ 31
IsKind (Char c) = (negsuc 127 ≤ℤ c) × (c ≤ℤ pos 127)
IsKind (Str bytes) = All IsByte bytes
IsKind (Punct p) = p < 45
