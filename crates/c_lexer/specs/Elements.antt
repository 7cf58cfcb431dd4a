-- For private contracts and proofs alone: what the readers of the elements of a literal answer.
use Rattle.std.specs.Prelude.{◌≡◌, ◌⊎◌, ◌≤◌, ◌<◌, ℕ, Bool, true, false, List, [], ◌∷◌, ◌++◌, All, Any, length, take, drop, Option, Some, None}
use Rattle.std.specs.Char.{digit_value}
use Rattle.std.specs.Str.Parse.{AllDigits, digits_value}
use Rattle.c_lexer.specs.declared.escape.Digits.{Digits}
use Rattle.c_lexer.specs.declared.escape.Element.{Element}
use Rattle.c_lexer.specs.declared.literal.Elements.{Elements}
use Rattle.c_lexer.specs.Kinds.{IsByte}
use Rattle.c_lexer.specs.Literals.{IsSimple, HasElement, HasElements}

-- a quote that ends a literal
abbrev pub IsQuote : ℕ → Type 0
IsQuote q = (q ≡ 39) ⊎ (q ≡ 34)

-- no digit in the radix stands first
abbrev pub HasNoDigit : ℕ → List ℕ → Type 0
HasNoDigit radix [] = Unit {0}
HasNoDigit radix (b ∷ rest) = radix ≤ digit_value b

-- a number that is kept as a byte, or None where it is above 255
abbrev pub KeepsByte : ℕ → Option ℕ → Type 0
KeepsByte v (Some b) = (v ≡ b) × (v ≤ 255)
KeepsByte v None = 255 < v

-- the digits that stand first, all of them, and the number that they write
pub record ReadsDigits (radix : ℕ) (i : List ℕ) (digits : Digits) : Type 0 where
  pub within : digits.count ≤ length i
  pub are : AllDigits radix (take digits.count i)
  pub ended : HasNoDigit radix (drop digits.count i)
  pub value : KeepsByte (digits_value radix (take digits.count i)) digits.value

-- what a backslash and the byte stand for, or that they are no simple escape
abbrev pub ReadsSimple : ℕ → Option ℕ → Type 0
ReadsSimple c (Some v) = IsSimple c v × (v ≤ 255)
ReadsSimple c None = (v : ℕ) → IsSimple c v → ⊥

-- no element stands first
abbrev pub HasNoElement : ℕ → List ℕ → Type 0
HasNoElement quote i = (j : List ℕ) (v : ℕ) → HasElement quote i j v → ⊥

-- the element that stands first, with its value; or that none does
abbrev pub ReadsElement : ℕ → List ℕ → Option Element → Type 0
ReadsElement quote i (Some e) = (e.length ≤ length i) × ((v : ℕ) × HasElement quote i (drop e.length i) v × KeepsByte v e.value)
ReadsElement quote i None = HasNoElement quote i

-- the values are the bytes; or one is above 255
abbrev pub HasValues : Bool → List ℕ → List ℕ → Type 0
HasValues false bytes vs = (vs ≡ bytes) × All IsByte vs
HasValues true bytes vs = Any (λ v. 255 < v) vs

-- elements that stand first
pub record HasRead (quote : ℕ) (i : List ℕ) (found : Elements) : Type 0 where
  pub values : List ℕ
  pub within : found.length ≤ length i
  pub are : HasElements quote i (drop found.length i) values
  pub have : HasValues found.large found.bytes.items values

-- all elements that stand first
abbrev pub ReadsElements : ℕ → List ℕ → Elements → Type 0
ReadsElements quote i found = HasRead quote i found × HasNoElement quote (drop found.length i)

-- one more value
abbrev pub AddsValue : Elements → Elements → Option ℕ → Type 0
AddsValue old new value = (vs : List ℕ) (v : ℕ) → KeepsByte v value → HasValues old.large old.bytes.items vs → HasValues new.large new.bytes.items (vs ++ v ∷ [])
