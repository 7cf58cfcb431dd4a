-- For private contracts and proofs alone: how far a text was read, and what the reader of a line answers.
use Rattle.std.specs.Prelude.{◌≡◌, ◌⊎◌, ℕ, ◌+◌, ◌<◌, ◌≤◌, List, [], ◌++◌, ◌∷◌, length, take, drop, Bool, false, nat_eq, Result, Ok, Err}
use Rattle.line_text.specs.declared.miss.Miss.{Miss}
use Rattle.line_text.specs.declared.miss.Miss.TheVariants.{OutOfMemory as no_memory, Short, Wrong}
use Rattle.line_text.specs.Files.{through, IsFirstLine, IsProperPrefix, IsBadLine}
use Rattle.line_text.specs.Reading.{StandsFirst, Reads}
use Rattle.flow_model.specs.Graph.{Graph}
use Rattle.model_file.specs.declared.error.ModelError.{ModelError}
use Rattle.model_file.specs.declared.error.ModelError.TheVariants.{OutOfMemory, BadLine, Invalid, Truncated, TooLarge, Version}
use Rattle.model_file.specs.declared.place.Place.{Place}
use Rattle.model_file.specs.declared.version.ModelVersion.{ModelVersion}
use Rattle.model_file.specs.ModelText.{IsModelText, IsFormedModel}
use Rattle.model_file.specs.Refusal.{longest}

-- what a text spells: lists, in a version
pub record Spelling : Type 0 where
  pub version : ModelVersion
  pub graph : Graph

abbrev pub Spells : Spelling → List ℕ → Type 0
Spells m text = IsModelText m.version text m.graph

-- the bytes are k lines; whose text begins with them, and how it goes on, is told by At; there is some
pub record HasTold (At : Spelling → List ℕ → Type 0) (k : ℕ) (done : List ℕ) : Type 0 where
  pub whole : (w : List ℕ) → through k (done ++ w) ≡ done
  pub follows : (m : Spelling) (w : List ℕ) → Spells m (done ++ w) → At m w
  pub back : (m : Spelling) (w : List ℕ) → At m w → Spells m (done ++ w)
  pub some : (m : Spelling) × (w : List ℕ) × At m w

-- the text was read up to the place
abbrev pub IsAt : (Spelling → List ℕ → Type 0) → List ℕ → Place → Type 0
IsAt At text place = HasTold At place.line (take place.byte text)

-- the place is one in the text, which is no longer than may be
pub record IsPlace (text : List ℕ) (place : Place) : Type 0 where
  pub within : place.byte ≤ length text
  pub lines : place.line ≤ place.byte
  pub short : length text ≤ longest

-- the line is that between the two places
pub record IsNext (text : List ℕ) (old new : Place) (line : List ℕ) : Type 0 where
  pub first : IsFirstLine (drop old.byte text) line (drop new.byte text)
  pub bytes : take new.byte text ≡ take old.byte text ++ line
  pub number : new.line ≡ old.line + 1
  pub long : new.byte ≡ old.byte + length line
  pub further : old.byte < new.byte

-- the line after the place is that of the value, and the new place is behind it
pub record IsTaken {V : Type 0} (Fits : V → Type 0) (spelled : V → List ℕ) (text : List ℕ) (old new : Place) (v : V) : Type 0 where
  pub line : List ℕ
  pub next : IsNext text old new line
  pub first : StandsFirst Fits spelled line [] v

-- the line after the place gives no value
pub record IsMissed {V : Type 0} (Fits : V → Type 0) (spelled : V → List ℕ) (text : List ℕ) (old : Place) (miss : Miss) : Type 0 where
  pub line : List ℕ
  pub rest : List ℕ
  pub first : IsFirstLine (drop old.byte text) line rest
  pub missed : Reads {V = V} Fits spelled line [] (Err miss)

-- the line after the place is read, or it is wrong and is named by its number, or the text ends too early
abbrev pub Takes : {V : Type 0} → (V → Type 0) → (V → List ℕ) → List ℕ → Place → Place → Result V ModelError → Type 0
Takes Fits spelled text old new (Ok v) = IsTaken Fits spelled text old new v
Takes Fits spelled text old new (Err OutOfMemory) = Unit {0}
Takes Fits spelled text old new (Err (BadLine k)) = (k ≡ old.line + 1) × IsMissed Fits spelled text old Wrong
Takes Fits spelled text old new (Err Truncated) = (drop old.byte text ≡ []) ⊎ IsMissed Fits spelled text old Short
Takes Fits spelled text old new (Err TooLarge) = ⊥
Takes Fits spelled text old new (Err Version) = ⊥
Takes Fits spelled text old new (Err (Invalid rule)) = ⊥

-- a line follows, and is the error's
abbrev pub IsMore : List ℕ → Place → Place → ModelError → Type 0
IsMore text old new error = (line : List ℕ) × IsNext text old new line × (error ≡ BadLine (old.line + 1))

-- why the text is refused where nothing was read of the line with this number
abbrev pub refusal_of : Miss → ℕ → ModelError
refusal_of no_memory line = OutOfMemory
refusal_of Short line = Truncated
refusal_of Wrong line = BadLine line

-- whether the last byte is a line feed
abbrev pub is_ended : List ℕ → Bool
is_ended [] = false
is_ended (b ∷ []) = nat_eq b 10
is_ended (b ∷ c ∷ rest) = is_ended (c ∷ rest)

-- why a text that is short enough, and has one of the versions, is refused before its lists are known; it is then the text of none
abbrev pub IsStop : ModelError → List ℕ → Type 0
IsStop OutOfMemory text = Unit {0}
IsStop (BadLine k) text = IsBadLine IsFormedModel text k × (IsFormedModel text → ⊥)
IsStop Truncated text = IsProperPrefix IsFormedModel text × (IsFormedModel text → ⊥)
IsStop TooLarge text = ⊥
IsStop Version text = ⊥
IsStop (Invalid rule) text = ⊥
