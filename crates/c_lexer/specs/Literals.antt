-- Integer constants, character constants and string literals (C99 6.4.4.1, 6.4.4.4, 6.4.5), without the ranges of their values.
use Rattle.std.specs.Prelude.{◌≡◌, ◌≢◌, ◌⊎◌, ◌≤◌, ◌<◌, ◌^◌, ℕ, ℤ, pos, ◌-ℤ◌, Bool, true, false, List, [], ◌∷◌, ◌++◌, length, Option, Some, None, nat_lt, if◌then◌else◌}
use Rattle.std.specs.Str.Parse.{AllDigits, digits_value}

-- a decimal constant begins with a digit other than 0
abbrev pub IsDecimal : List ℕ → ℕ → Type 0
IsDecimal [] n = ⊥
IsDecimal (d ∷ digits) n = (d ≢ 48) × AllDigits 10 (d ∷ digits) × (n ≡ digits_value 10 (d ∷ digits))

-- an octal constant is 0 and octal digits
abbrev pub IsOctal : List ℕ → ℕ → Type 0
IsOctal w n = (digits : List ℕ) × (w ≡ 48 ∷ digits) × AllDigits 8 digits × (n ≡ digits_value 8 digits)

-- a hexadecimal constant is 0x or 0X and hexadecimal digits
abbrev pub IsHexadecimal : List ℕ → ℕ → Type 0
IsHexadecimal w n = (x : ℕ) × (digits : List ℕ) × (w ≡ 48 ∷ x ∷ digits) × ((x ≡ 120) ⊎ (x ≡ 88)) × (digits ≢ []) × AllDigits 16 digits × (n ≡ digits_value 16 digits)

-- the number that a constant without its suffix has, and whether the constant is decimal
abbrev pub HasNumber : List ℕ → ℕ → Bool → Type 0
HasNumber w n true = IsDecimal w n
HasNumber w n false = IsOctal w n ⊎ IsHexadecimal w n

-- the suffix u or U, or none
abbrev pub IsSuffix : Bool → List ℕ → Type 0
IsSuffix true w = (w ≡ 117 ∷ []) ⊎ (w ≡ 85 ∷ [])
IsSuffix false w = w ≡ []

-- an integer constant with the number n, decimal or not, with a suffix or without
pub record IsConstant (w : List ℕ) (n : ℕ) (decimal suffixed : Bool) : Type 0 where
  pub digits : List ℕ
  pub suffix : List ℕ
  pub is : w ≡ digits ++ suffix
  pub number : HasNumber digits n decimal
  pub ended : IsSuffix suffixed suffix

-- Whether the type is unsigned int, or else int: the first type of the constant's list (6.4.4.1 paragraph 5) that holds
-- the number. None where no type does.
abbrev pub type_of : Bool → Bool → ℕ → Option Bool
type_of decimal suffixed n =
    if suffixed then (if nat_lt n (2 ^ 32) then Some true else None)
    else (if nat_lt n (2 ^ 31) then Some false else (if decimal then None else (if nat_lt n (2 ^ 32) then Some true else None)))

-- the text from i to j is the longest at the front of i that P holds of
pub record IsLongest (P : List ℕ → Type 0) (w i j : List ℕ) : Type 0 where
  pub is : P w
  pub stands : i ≡ w ++ j
  pub longest : (x y : List ℕ) → i ≡ x ++ y → P x → length x ≤ length w

-- a byte that stands for itself in a literal that the quote ends: not the quote, no backslash, no control byte
pub record IsPlain (quote b : ℕ) : Type 0 where
  pub from : 32 ≤ b
  pub below : b < 256
  pub no_control : b ≢ 127
  pub no_quote : b ≢ quote
  pub no_backslash : b ≢ 92

-- the byte after a backslash, and what the two stand for (6.4.4.4 paragraphs 3 to 5, 5.2.2)
pub data IsSimple : ℕ → ℕ → Type 0 where
  single_quote : IsSimple 39 39
  double_quote : IsSimple 34 34
  question : IsSimple 63 63
  backslash : IsSimple 92 92
  alert : IsSimple 97 7
  backspace : IsSimple 98 8
  form_feed : IsSimple 102 12
  new_line : IsSimple 110 10
  carriage_return : IsSimple 114 13
  horizontal_tab : IsSimple 116 9
  vertical_tab : IsSimple 118 11

-- The text is one element of a literal that the quote ends, and has this value.
pub data IsElement (quote : ℕ) : List ℕ → ℕ → Type 0 where
  plain : {b : ℕ} → IsPlain quote b → IsElement quote (b ∷ []) b
  simple : {c v : ℕ} → IsSimple c v → IsElement quote (92 ∷ c ∷ []) v
  octal : {digits : List ℕ} {v : ℕ} → 1 ≤ length digits → length digits ≤ 3 → AllDigits 8 digits → v ≡ digits_value 8 digits → IsElement quote (92 ∷ digits) v
  hexadecimal : {digits : List ℕ} {v : ℕ} → 1 ≤ length digits → AllDigits 16 digits → v ≡ digits_value 16 digits → IsElement quote (92 ∷ 120 ∷ digits) v

-- some element
abbrev pub IsSomeElement : ℕ → List ℕ → Type 0
IsSomeElement quote w = (v : ℕ) × IsElement quote w v

-- from i to j stands an element with the value, the longest that there is (6.4.4.4 paragraph 7)
pub record HasElement (quote : ℕ) (i j : List ℕ) (v : ℕ) : Type 0 where
  pub text : List ℕ
  pub element : IsElement quote text v
  pub longest : IsLongest (IsSomeElement quote) text i j

-- from i to j stand elements with the values
pub data HasElements (quote : ℕ) : List ℕ → List ℕ → List ℕ → Type 0 where
  none : {i : List ℕ} → HasElements quote i i []
  more : {i j k : List ℕ} {v : ℕ} {vs : List ℕ} → HasElement quote i j v → HasElements quote j k vs → HasElements quote i k (v ∷ vs)

-- a character constant with one element
abbrev pub IsCharacter : List ℕ → ℕ → Type 0
IsCharacter w v = (i : List ℕ) × (w ≡ 39 ∷ i) × HasElement 39 i (39 ∷ []) v

-- a string literal with these elements
abbrev pub IsString : List ℕ → List ℕ → Type 0
IsString w vs = (i : List ℕ) × (w ≡ 34 ∷ i) × HasElements 34 i (34 ∷ []) vs

-- the value of a character constant: a value above 127 stands for itself less 256, since char is signed (6.4.4.4 paragraph 10)
abbrev pub char_value : ℕ → ℤ
char_value v = if nat_lt v 128 then pos v else (pos v -ℤ pos 256)
