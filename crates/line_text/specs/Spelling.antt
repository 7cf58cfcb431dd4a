-- For private contracts and proofs alone: words that are the text of a value, or begin one.
use Rattle.std.specs.Prelude.{◌≡◌, ℕ, List, ◌++◌, Result, Ok, Err}
use Rattle.line_text.specs.declared.miss.Miss.{Miss}
use Rattle.line_text.specs.declared.miss.Miss.TheVariants.{OutOfMemory, Short, Wrong}

-- the text of some value that fits begins with these bytes
abbrev pub BeginsOne : {V : Type 0} → (V → Type 0) → (V → List ℕ) → List ℕ → Type 0
BeginsOne {V} Fits text front = (v : V) × (rest : List ℕ) × Fits v × (text v ≡ front ++ rest)

-- the word is the text of the value, which fits; with Wrong it is that of no value that fits
abbrev pub Spells : {V : Type 0} → (V → Type 0) → (V → List ℕ) → List ℕ → Result V Miss → Type 0
Spells Fits text word (Ok v) = Fits v × (word ≡ text v)
Spells Fits text word (Err OutOfMemory) = Unit {0}
Spells Fits text word (Err Short) = ⊥
Spells {V} Fits text word (Err Wrong) = (v : V) → Fits v → word ≡ text v → ⊥
