-- For private contracts and proofs alone: what the readers of words, numbers and marks answer.
use Rattle.std.specs.Prelude.{◌≡◌, ◌≢◌, ◌≤◌, ◌<◌, ◌==◌, ℕ, Bool, List, ◌∷◌, ◌++◌, Contains, length, Result, Ok, Err, Option, Some, None, slice_get}
use Rattle.std.specs.Str.Parse.{IsNumeral, digits_value}
use Rattle.dm_base.specs.Name.{IsLetter, IsDigit}
use Rattle.c_lexer.specs.declared.token.TokenKind.{TokenKind}
use Rattle.c_lexer.specs.declared.error.Cause.{Cause}
use Rattle.c_lexer.specs.declared.error.Cause.TheVariants.{ForeignByte, OpenComment, Malformed, TooLarge, NoLineMarker, ExcludedKeyword}
use Rattle.c_lexer.specs.declared.misfit.Misfit.{Misfit}
use Rattle.c_lexer.specs.declared.misfit.Misfit.TheVariants.{OutOfMemory, By}
use Rattle.c_lexer.specs.Words.{excluded_keywords}
use Rattle.c_lexer.specs.Literals.{IsConstant, HasNumber, type_of}
use Rattle.c_lexer.specs.Kinds.{Spells}

-- a byte that P has stands first
abbrev pub BeginsWith : (ℕ → Type 0) → List ℕ → Type 0
BeginsWith P i = (b : ℕ) × (rest : List ℕ) × (i ≡ b ∷ rest) × P b

-- neither letter, digit nor quote
pub record IsOther (b : ℕ) : Type 0 where
  pub no_letter : IsLetter b → ⊥
  pub no_digit : IsDigit b → ⊥
  pub no_single : b ≢ 39
  pub no_double : b ≢ 34

-- the words have no text that stands at the front
abbrev pub HasNoFront : List (List ℕ) → List ℕ → Type 0
HasNoFront words i = (x y : List ℕ) → i ≡ x ++ y → Contains words x → ⊥

-- w is one of the words, and the longest of them that stands at the front
pub record IsLongestFront (words : List (List ℕ)) (w i : List ℕ) : Type 0 where
  pub among : Contains words w
  pub rest : List ℕ
  pub stands : i ≡ w ++ rest
  pub longest : (x y : List ℕ) → i ≡ x ++ y → Contains words x → length x ≤ length w

-- what is found of the words at the front, where the empty word is not looked for: a number and its word, or none
abbrev pub FindsFront : List (List ℕ) → List ℕ → Option ℕ → Type 0
FindsFront words i None = (x y : List ℕ) → i ≡ x ++ y → Contains words x → length x ≤ 0
FindsFront words i (Some p) = (w : List ℕ) × (slice_get words p ≡ Some w) × IsLongestFront words w i

-- why a word is no token
abbrev pub IsWordMisfit : Cause → List ℕ → Type 0
IsWordMisfit ForeignByte w = ⊥
IsWordMisfit OpenComment w = ⊥
IsWordMisfit Malformed w = 63 < length w
IsWordMisfit TooLarge w = ⊥
IsWordMisfit NoLineMarker w = ⊥
IsWordMisfit ExcludedKeyword w = Contains excluded_keywords w

-- what a word that was taken whole spells
abbrev pub ReadsWord : List ℕ → Result TokenKind Misfit → Type 0
ReadsWord w (Ok kind) = Spells kind w
ReadsWord w (Err OutOfMemory) = Unit {0}
ReadsWord w (Err (By cause)) = IsWordMisfit cause w

-- why a number is no token
abbrev pub IsNumberMisfit : Cause → List ℕ → Type 0
IsNumberMisfit ForeignByte w = ⊥
IsNumberMisfit OpenComment w = ⊥
IsNumberMisfit Malformed w = (n : ℕ) (decimal suffixed : Bool) → IsConstant w n decimal suffixed → ⊥
IsNumberMisfit TooLarge w = ((n : ℕ) × (decimal : Bool) × (suffixed : Bool) × IsConstant w n decimal suffixed × (type_of decimal suffixed n ≡ None)) × ((n : ℕ) (decimal suffixed : Bool) → IsConstant w n decimal suffixed → type_of decimal suffixed n ≡ None)
IsNumberMisfit NoLineMarker w = ⊥
IsNumberMisfit ExcludedKeyword w = ⊥

-- what a number that was taken whole spells
abbrev pub ReadsNumber : List ℕ → Result TokenKind Cause → Type 0
ReadsNumber w (Ok kind) = Spells kind w
ReadsNumber w (Err cause) = IsNumberMisfit cause w

-- the constant w without its suffix is body
pub record IsUnsuffixed (w body : List ℕ) (suffixed : Bool) : Type 0 where
  pub parts : (n : ℕ) (decimal other : Bool) → IsConstant w n decimal other → (other ≡ suffixed) × HasNumber body n decimal
  pub whole : (n : ℕ) (decimal : Bool) → HasNumber body n decimal → IsConstant w n decimal suffixed

-- the number that the text has is that of the digits in the base
pub record IsBased (body : List ℕ) (base : ℕ) (digits : List ℕ) : Type 0 where
  pub low : 2 ≤ base
  pub high : base ≤ 36
  pub parts : (n : ℕ) (decimal : Bool) → HasNumber body n decimal → (decimal ≡ (base == 10)) × IsNumeral base digits × (n ≡ digits_value base digits)
  pub whole : (n : ℕ) (decimal : Bool) → decimal ≡ (base == 10) → IsNumeral base digits → n ≡ digits_value base digits → HasNumber body n decimal
