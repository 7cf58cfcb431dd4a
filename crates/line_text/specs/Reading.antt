-- What the readers of words and lines answer.
use Rattle.std.specs.Prelude.{◌≡◌, ◌≢◌, ◌⊎◌, ℕ, List, [], ◌++◌, Contains, Result, Ok, Err}
use Rattle.line_text.specs.declared.miss.Miss.{Miss}
use Rattle.line_text.specs.declared.miss.Miss.TheVariants.{OutOfMemory, Short, Wrong}

-- one of the two texts begins with the other
abbrev pub Agree : List ℕ → List ℕ → Type 0
Agree a b = (rest : List ℕ) × ((a ++ rest ≡ b) ⊎ (a ≡ b ++ rest))

-- the text of the value stands first, and the new bytes follow it; of no other value that fits do the text and the bytes agree
pub record StandsFirst {V : Type 0} (Fits : V → Type 0) (text : V → List ℕ) (old new : List ℕ) (v : V) : Type 0 where
  pub fits : Fits v
  pub stands : old ≡ text v ++ new
  pub only : (w : V) → Fits w → Agree (text w) old → w ≡ v

-- the bytes end before the text of a value that fits does, and have no line feed
pub record IsCutShort {V : Type 0} (Fits : V → Type 0) (text : V → List ℕ) (old : List ℕ) : Type 0 where
  pub value : V
  pub rest : List ℕ
  pub fits : Fits value
  pub more : rest ≢ []
  pub goes_on : text value ≡ old ++ rest
  pub unended : Contains old 10 → ⊥

-- the value whose text stands first is read; or the bytes end too early; or however they go on, no value that fits has its text there
abbrev pub Reads : {V : Type 0} → (V → Type 0) → (V → List ℕ) → List ℕ → List ℕ → Result V Miss → Type 0
Reads Fits text old new (Ok v) = StandsFirst Fits text old new v
Reads Fits text old new (Err OutOfMemory) = Unit {0}
Reads Fits text old new (Err Short) = IsCutShort Fits text old
Reads {V} Fits text old new (Err Wrong) = (w : V) → Fits w → Agree (text w) old → ⊥
